-- The core file (ELF gABI, chapters 4 and 5).
-- No clause of `kexec` reaches what stands here: it serves laws, and contracts inside the crates.
use Rattle.std.specs.Prelude.{◌≡◌, ℕ, ◌+◌, ◌*◌, ◌<◌, ◌≤◌, ◌&&◌, false, Bool, List, length, map, take, filter, slice_index, nat_le, nat_lt}
use Rattle.std.specs.List.{range_with_len, list_any, AllByRecursion}
use Rattle.kx_fields.specs.Fields.{bytes_at}
use Rattle.kx_fields.specs.Formats.{read}
use Rattle.kx_pages.specs.Bytes.{Mem}
use Rattle.elf_headers.specs.declared.program_header.ProgramHeader.{ProgramHeader}
use Rattle.elf_headers.specs.FileHeader.{file_header}
use Rattle.elf_headers.specs.ProgramHeader.{program_header}
use Rattle.vmcore_file.specs.declared.file.Core.{Core}
use Rattle.page_memory.specs.Addresses.{byte_in}
use Rattle.vmcore_file.specs.Table.{is_load}
use Rattle.vmcore_file.specs.Notes.{kept_notes}
use Rattle.vmcore_file.specs.Layout.{loads_in_file}
use Rattle.vmcore_file.specs.File.{CoreValue}

abbrev pub value_of : Core → CoreValue
value_of c = record { bytes = c.bytes.items; loads = c.loads; notes = c.notes }

-- the loads of the file of memory by these rows
abbrev pub core_loads : Mem → List ProgramHeader → List ProgramHeader
core_loads M rows = loads_in_file (kept_notes M rows) (filter is_load rows)

-- What the bytes of a file say.

-- how many program headers it has, and these, which stand behind the file header
abbrev pub row_count : List ℕ → ℕ
row_count bytes = (read file_header (take 64 bytes)).phnum

abbrev pub rows_of : List ℕ → List ProgramHeader
rows_of bytes =
    map (λ k. read program_header (bytes_at (64 + 56 * k) 56 bytes))
    (range_with_len 0 (row_count bytes))

abbrev pub loads_of : List ℕ → List ProgramHeader
loads_of bytes = filter is_load (rows_of bytes)

-- the file has at the row's place what memory has at its address
abbrev pub HasBytes : Mem → List ℕ → ProgramHeader → Type 0
HasBytes M bytes row =
    (j : ℕ) → j < row.filesz → slice_index bytes (row.offset + j) ≡ byte_in M (row.paddr + j)

abbrev pub HaveBytes : Mem → List ProgramHeader → List ℕ → Type 0
HaveBytes M rows bytes = AllByRecursion (HasBytes M bytes) rows

-- place k of the file is one of the row's
abbrev pub is_placed_at : ℕ → ProgramHeader → Bool
is_placed_at k row = nat_le row.offset k && nat_lt k (row.offset + row.filesz)

-- behind the rows each byte that is none of theirs is zero
abbrev pub IsZeroBeside : List ProgramHeader → List ℕ → Type 0
IsZeroBeside rows bytes =
    (k : ℕ) → 64 + 56 * length rows ≤ k → list_any (is_placed_at k) rows ≡ false
    → slice_index bytes k ≡ 0
