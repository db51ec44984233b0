-- The headers of an ELF64 core file (ELF gABI, chapters 4 and 5): the file header, a PT_NOTE for each note, a PT_LOAD
-- for each range. The limit and the order of faults are this project's own.
use Rattle.std.specs.Prelude.{ℕ, ◌+◌, ◌*◌, ◌++◌, List, length, map, nat_lt, if◌then◌else◌, Option, Some, None, Result, Ok, Err}
use Rattle.std.specs.List.{position}
use Rattle.memory_map.specs.declared.row.Row.{Row}
use Rattle.elf_headers.specs.declared.program_header.ProgramHeader.{ProgramHeader}
use Rattle.elf_headers.specs.FileHeader.{core_header, header_text}
use Rattle.elf_headers.specs.ProgramHeader.{table_text}
use Rattle.crash_headers.specs.declared.note.Note.{Note}
use Rattle.crash_headers.specs.declared.fault.CrashFault.{CrashFault}
use Rattle.crash_headers.specs.declared.fault.CrashFault.TheVariants as faults
use Rattle.crash_headers.specs.ProgramHeader.{note_row, load_row}
use Rattle.crash_headers.specs.Notes.{is_outside}

-- the program headers: the notes, then the ranges
abbrev pub rows : List Note → List Row → List ProgramHeader
rows notes ranges = map note_row notes ++ map load_row ranges

-- how many they are
abbrev pub count_of : List Note → List Row → ℕ
count_of notes ranges = length notes + length ranges

-- the file header and the rows, one after another
unfoldable pub headers : List Note → List Row → List ℕ
headers notes ranges =
    header_text (core_header (count_of notes ranges)) ++ table_text (rows notes ranges)

-- 64 bytes, and 56 for each of n notes and each range
abbrev pub length_for : ℕ → List Row → ℕ
length_for n ranges = 64 + 56 * (n + length ranges)

abbrev pub unless_outside : List Note → List Row → Option ℕ → Result (List ℕ) CrashFault
unless_outside notes ranges (Some i) = Err (faults.NotesOutside i)
unless_outside notes ranges None = Ok (headers notes ranges)

-- the headers, or the first reason why there are none
abbrev pub headers_or_fault : List Note → List Row → Result (List ℕ) CrashFault
headers_or_fault notes ranges =
    if nat_lt 1024 (count_of notes ranges) then
    Err (faults.TooManyRanges (count_of notes ranges))
    else unless_outside notes ranges (position (is_outside ranges) notes)
