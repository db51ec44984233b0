-- Ranges in an order in which a note is found by halving (this project's own).
-- No clause of `kexec` reaches what stands here: it serves laws, and contracts inside the crates.
use Rattle.std.specs.Prelude.{◌≡◌, ◌-◌, ◌<◌, ◌≤◌, List, length, slice_index_or}
use Rattle.std.specs.List.{list_any}
use Rattle.std.specs.List.Sorted.{IsNonDecreasingBy}
use Rattle.memory_map.specs.declared.row.Row.{Row}
use Rattle.memory_map.specs.Rows.{row_end}
use Rattle.crash_headers.specs.declared.note.Note.{Note}
use Rattle.crash_headers.specs.Notes.{lies_in}

-- no range starts before the one in front of it
abbrev pub AreSorted : List Row → Type 0
AreSorted rows = IsNonDecreasingBy (λ r. r.start) rows

-- and none ends before it
pub record AreRising (rows : List Row) : Type 0 where
  pub starts : AreSorted rows
  pub ends : IsNonDecreasingBy row_end rows

-- a note lies in one of these where it lies in one of those
abbrev pub HoldSameNotes : List Row → List Row → Type 0
HoldSameNotes rows ranges = (n : Note) → list_any (lies_in n) rows ≡ list_any (lies_in n) ranges

-- a range ends behind the last of these, if there are any
abbrev pub IsBehind : List Row → Row → Type 0
IsBehind rows r =
    (d : Row) → 0 < length rows → row_end (slice_index_or rows (length rows - 1) d) < row_end r

-- there is a last one, and the range does not end behind it
pub record IsNotBehind (rows : List Row) (r : Row) : Type 0 where
  pub some : 0 < length rows
  pub last : (d : Row) → row_end r ≤ row_end (slice_index_or rows (length rows - 1) d)
