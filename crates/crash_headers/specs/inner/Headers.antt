-- The headers of an ELF64 core file (ELF gABI, chapters 4 and 5): the file header, a PT_NOTE for each note, a PT_LOAD
-- for each range. The limit and the order of faults are this project's own.
-- No clause of `kexec` reaches what stands here: it serves laws, and contracts inside the crates.
use Rattle.std.specs.Prelude.{◌≡◌, ℕ, ◌+◌, ◌*◌, ◌<◌, List, length, take, slice_index_or}
use Rattle.kx_fields.specs.Fields.{bytes_at}
use Rattle.kx_fields.specs.Formats.{read}
use Rattle.memory_map.specs.declared.row.Row.{Row}
use Rattle.elf_headers.specs.declared.program_header.ProgramHeader.{ProgramHeader}
use Rattle.elf_headers.specs.FileHeader.{ident, file_header, core_header}
use Rattle.elf_headers.specs.ProgramHeader.{program_header}
use Rattle.crash_headers.specs.declared.note.Note.{Note}
use Rattle.crash_headers.specs.Headers.{length_for}

abbrev pub headers_length : List Note → List Row → ℕ
headers_length notes ranges = length_for (length notes) ranges

-- What stands where in the bytes of such headers.

-- they begin as an ELF64 file with its lowest bytes first does
abbrev pub HasIdentification : List ℕ → Type 0
HasIdentification bytes = take 16 bytes ≡ ident

-- the file header reads as that of a core file with so many program headers
abbrev pub HasFileHeader : ℕ → List ℕ → Type 0
HasFileHeader n bytes = read file_header (take 64 bytes) ≡ core_header n

-- what stands at 64 + 56 * i reads as program header i
abbrev pub HasProgramHeaders : List ProgramHeader → List ℕ → Type 0
HasProgramHeaders hs bytes =
    (i : ℕ) (d : ProgramHeader) → i < length hs
    → read program_header (bytes_at (64 + 56 * i) 56 bytes) ≡ slice_index_or hs i d
