-- The places of a core file's parts (this project's own): the file header and the rows, the notes at the next multiple of
-- 4,096, and each load at the next place that is its address but for a multiple of 4,096, as a page of memory asks it of a
-- file that is mapped (ELF gABI, chapter 5, "Program Header": p_vaddr and p_offset are the same, modulo the page size).
-- No clause of `kexec` reaches what stands here: it serves laws, and contracts inside the crates.
use Rattle.std.specs.Prelude.{ℕ, ◌+◌, List, [], ◌∷◌, length}
use Rattle.crash_headers.specs.declared.note.Note.{Note}
use Rattle.elf_headers.specs.declared.program_header.ProgramHeader.{ProgramHeader}
use Rattle.vmcore_file.specs.Notes.{notes_size}
use Rattle.vmcore_file.specs.Layout.{notes_place, note_row, loads_in_file}

-- and all its rows
abbrev pub rows_in_file : List Note → List ProgramHeader → List ProgramHeader
rows_in_file notes loads =
    note_row (notes_place (length loads)) (notes_size notes) ∷ loads_in_file notes loads

-- where the last of these placed loads ends, or `begin` where there is none
abbrev pub loads_end : ℕ → List ProgramHeader → ℕ
loads_end begin [] = begin
loads_end begin (row ∷ rows) = loads_end (row.offset + row.filesz) rows
