-- Notes: where they may lie, and the text that lists them, each line `start size` in hexadecimal (this project's own).
use Rattle.std.specs.Prelude.{ℕ, ◌+◌, ◌^◌, ◌++◌, ◌==◌, ◌&&◌, ◌||◌, not, Bool, List, [], ◌∷◌, nat_lt, nat_le, if◌then◌else◌, Option, Some, None, Result, Ok, Err}
use Rattle.std.specs.List.{list_any}
use Rattle.text_lines.specs.Lines.{lines, lines_onto, two_numbers}
use Rattle.memory_map.specs.declared.row.Row.{Row}
use Rattle.memory_map.specs.Rows.{row_end}
use Rattle.crash_headers.specs.declared.note.Note.{Note}
use Rattle.crash_headers.specs.declared.fault.NoteFault.{NoteFault}
use Rattle.crash_headers.specs.declared.fault.NoteFault.TheVariants as faults

-- the address behind a note
abbrev pub note_end : Note → ℕ
note_end n = n.start + n.size

-- the note's bytes are the range's
abbrev pub lies_in : Note → Row → Bool
lies_in n r = nat_le r.start n.start && nat_le (note_end n) (row_end r)

-- it lies in none of the ranges
abbrev pub is_outside : List Row → Note → Bool
is_outside ranges n = not (list_any (lies_in n) ranges)

-- a note has bytes, and all lie below 2^46
abbrev pub note_from : ℕ → ℕ → Option Note
note_from start size =
    if (size == 0) || nat_lt (2 ^ 46) (start + size) then None
    else Some (record { start = start; size = size })

abbrev pub note_by : Option (ℕ × ℕ) → Option Note
note_by (Some numbers) = note_from numbers.0 numbers.1
note_by None = None

-- the note of a line, `start size`: none where it has another form
unfoldable pub note_of : List ℕ → Option Note
note_of line = note_by (two_numbers line)

abbrev pub note_onto : ℕ → List Note → Option Note → Result (List Note) NoteFault
note_onto n notes (Some note) = Ok (notes ++ note ∷ [])
note_onto n notes None = Err (faults.BadLine n)

-- these notes and that of the line number n, of at most 1,024
unfoldable pub line_onto : ℕ → List Note → List ℕ → Result (List Note) NoteFault
line_onto n notes line =
    if nat_lt 1024 n then Err (faults.BadLine n)
    else note_onto n notes (note_of line)

-- the notes of a text, in its order, or the first line that is none
abbrev pub notes_reading : List ℕ → Result (List Note) NoteFault
notes_reading text = lines_onto line_onto 1 [] (lines text)
