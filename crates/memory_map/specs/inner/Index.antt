-- The index of the System RAM rows (this project's own).
-- No clause of `kexec` reaches what stands here: it serves laws, and contracts inside the crates.
use Rattle.std.specs.Prelude.{◌≡◌, ◌&&◌, Bool, List}
use Rattle.std.specs.List.{list_any}
use Rattle.range_index.specs.inner.Ranges.{Range}
use Rattle.memory_map.specs.declared.row.Row.{Row}
use Rattle.memory_map.specs.Rows.{row_end, is_ram_row}

-- the bytes of a row
abbrev pub range_of : Row → Range
range_of r = (r.start, row_end r)

-- the index has the ranges of the System RAM rows, and no more
abbrev pub IsIndex : List Row → List Range → Type 0
IsIndex rows index =
    (test : Range → Bool)
    → list_any test index ≡ list_any (λ r. is_ram_row r && test (range_of r)) rows
