-- What is known of rows that were tested (this project's own).
-- No clause of `kexec` reaches what stands here: it serves laws, and contracts inside the crates.
use Rattle.std.specs.Prelude.{ℕ, ◌+◌, ◌^◌, ◌<◌, ◌≤◌, List, [], ◌∷◌, length}
use Rattle.std.specs.List.{AllByRecursion}
use Rattle.crash_headers.specs.declared.note.Note.{Note}
use Rattle.elf_headers.specs.declared.program_header.ProgramHeader.{ProgramHeader}
use Rattle.vmcore_file.specs.Table.{bytes_of}

-- the row's bytes lie below 2^46
pub record IsInside (row : ProgramHeader) : Type 0 where
  pub end : row.paddr + row.filesz ≤ 2 ^ 46

abbrev pub AreInside : List ProgramHeader → Type 0
AreInside rows = AllByRecursion IsInside rows

-- so do those of the notes
pub record IsBelow (note : Note) : Type 0 where
  pub end : note.start + note.size ≤ 2 ^ 46

abbrev pub AreBelow : List Note → Type 0
AreBelow notes = AllByRecursion IsBelow notes

-- few rows, of few bytes, all of them below 2^46
pub record AreTested (rows : List ProgramHeader) : Type 0 where
  pub few : length rows ≤ 1024
  pub small : bytes_of rows ≤ 2 ^ 29
  pub inside : AreInside rows

-- loads at places behind what ends at `end`, each less than a page behind what stands before it
abbrev pub ArePlaced : ℕ → List ProgramHeader → Type 0
ArePlaced end [] = Unit {0}
ArePlaced end (row ∷ rows) =
    (end ≤ row.offset) × (row.offset < end + 4096) × (row.paddr + row.filesz ≤ 2 ^ 46)
    × ArePlaced (row.offset + row.filesz) rows
