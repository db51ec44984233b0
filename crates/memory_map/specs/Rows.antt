-- Ranges of bytes, and what they say of single bytes and pages (this project's own). A page has 4,096 bytes.
use Rattle.std.specs.Prelude.{ℕ, ◌+◌, ◌*◌, ◌==◌, ◌&&◌, Bool, nat_lt, nat_le, min, max}
use Rattle.kx_pages.specs.Ranges as ranges
use Rattle.memory_map.specs.declared.row.Row.{Row}

-- the first byte behind a row
abbrev pub row_end : Row → ℕ
row_end r = r.start + r.size

-- byte b is one of the row's
abbrev pub is_inside : ℕ → Row → Bool
is_inside b r = nat_le r.start b && nat_lt b (row_end r)

-- some byte is in both rows
abbrev pub rows_meet : Row → Row → Bool
rows_meet r s = nat_lt (max r.start s.start) (min (row_end r) (row_end s))

-- each byte of page p is one of the row's
abbrev pub holds_page : ℕ → Row → Bool
holds_page p r = nat_le r.start (4096 * p) && nat_le (4096 * p + 4096) (row_end r)

-- some byte of page p is one of the row's
abbrev pub meets_page : ℕ → Row → Bool
meets_page p r = ranges.meets_page r.start (row_end r) p

-- System RAM
abbrev pub is_ram_row : Row → Bool
is_ram_row r = r.kind == 1
