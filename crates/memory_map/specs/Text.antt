-- The text of a memory map (/proc/iomem): a line is spaces, the first and the last byte in hexadecimal with `-`
-- between, ` : ` and a name.
use Rattle.std.specs.Prelude.{ℕ, ◌+◌, ◌-◌, ◌^◌, ◌==◌, ◌&&◌, Bool, List, [], ◌∷◌, drop, codes, not, nat_lt, nat_eq, min, if◌then◌else◌, Option, Some, None, Result, Ok, Err}
use Rattle.std.specs.List.{list_any, starts_with}
use Rattle.std.specs.Str.{bytes_eq}
use Rattle.kx_laws.specs.Results.{◌>>=◌}
use Rattle.text_lines.specs.Lines.{cut, lines, number}
use Rattle.memory_map.specs.declared.fault.MapFault.{MapFault}
use Rattle.memory_map.specs.declared.fault.MapFault.TheVariants as faults
use Rattle.memory_map.specs.declared.row.Class.{Class}
use Rattle.memory_map.specs.declared.row.Class.TheVariants as classes
use Rattle.memory_map.specs.declared.row.Row.{Row}
use Rattle.memory_map.specs.Rows.{rows_meet, is_ram_row}
use Rattle.memory_map.specs.Maps.{MapValue, nothing, with_row, with_area, ram_pages}

-- what a name says of a range
unfoldable pub class_of : List ℕ → Class
class_of name =
    if bytes_eq name (codes "System RAM") then classes.Listed 1
    else if bytes_eq name (codes "Reserved") then classes.Listed 2
    else if bytes_eq name (codes "reserved") then classes.Listed 2
    else if bytes_eq name (codes "ACPI Tables") then classes.Listed 3
    else if bytes_eq name (codes "ACPI Non-volatile Storage") then classes.Listed 4
    else if bytes_eq name (codes "Crash kernel") then classes.CrashArea
    else classes.Other

abbrev pub without_spaces : List ℕ → List ℕ
without_spaces [] = []
without_spaces (b ∷ bs) = if b == 32 then without_spaces bs else b ∷ bs

abbrev pub entry_with_name : Option ℕ → Option ℕ → List ℕ → Option (ℕ × ℕ × Class)
entry_with_name (Some first) (Some last) name = Some (first, last, class_of name)
entry_with_name (Some first) None name = None
entry_with_name None last name = None

abbrev pub entry_to : Option ℕ → Option (List ℕ × List ℕ) → Option (ℕ × ℕ × Class)
entry_to first None = None
entry_to first (Some p) =
    if not (starts_with nat_eq p.1 (codes ": ")) then None
    else entry_with_name first (number p.0) (drop 2 p.1)

abbrev pub entry_from : Option (List ℕ × List ℕ) → Option (ℕ × ℕ × Class)
entry_from None = None
entry_from (Some p) = entry_to (number p.0) (cut 32 p.1)

-- the first and the last byte of a line, and what they are: none where the line has another form
unfoldable pub entry_of : List ℕ → Option (ℕ × ℕ × Class)
entry_of line = entry_from (cut 45 (without_spaces line))

abbrev pub check_entry : ℕ → Option (ℕ × ℕ × Class) → Result (ℕ × ℕ × Class) MapFault
check_entry n None = Err (faults.BadLine n)
check_entry n (Some e) = if nat_lt e.1 e.0 then Err (faults.Backwards n) else Ok e

-- the same for the line number n, or its first fault
unfoldable pub checked_entry : ℕ → List ℕ → Result (ℕ × ℕ × Class) MapFault
checked_entry n line = check_entry n (entry_of line)

-- the bytes from the first to the last that lie below 2^46
abbrev pub below_limit : ℕ → ℕ → ℕ → Row
below_limit first last kind =
    record {
      start = min first (2 ^ 46);
      size = min (last + 1) (2 ^ 46) - min first (2 ^ 46);
      kind = kind;
    }

-- whether a row has a byte of a System RAM row
abbrev pub meets_ram : Row → List Row → Bool
meets_ram r rows = list_any (λ s. is_ram_row s && rows_meet r s) rows

abbrev pub row_onto : ℕ → MapValue → Row → Result MapValue MapFault
row_onto n m r =
    if r.size == 0 then Ok m
    else if is_ram_row r && meets_ram r m.rows then Err (faults.RamOverlaps n)
    else Ok (with_row r m)

abbrev pub class_onto : ℕ → MapValue → Class → ℕ → ℕ → Result MapValue MapFault
class_onto n m classes.Other first last = Ok m
class_onto n m classes.CrashArea first last = Ok (with_area (below_limit first last 0) m)
class_onto n m (classes.Listed kind) first last = row_onto n m (below_limit first last kind)

-- what the lines before say, and the line number n
unfoldable pub line_onto : ℕ → MapValue → List ℕ → Result MapValue MapFault
line_onto n m line = do
  e ← checked_entry n line
  class_onto n m e.2 e.0 e.1

-- and the lines from n on
unfoldable pub lines_onto : ℕ → MapValue → List (List ℕ) → Result MapValue MapFault
lines_onto n m [] = Ok m
lines_onto n m (line ∷ rest) = do
  more ← line_onto n m line
  lines_onto (n + 1) more rest

abbrev pub if_ram : MapValue → Result MapValue MapFault
if_ram m = if ram_pages m == 0 then Err faults.NoRam else Ok m

-- what a map says, or its first fault
unfoldable pub map_reading : List ℕ → Result MapValue MapFault
map_reading text = do
  m ← lines_onto 1 nothing (lines text)
  if_ram m
