-- The program headers of an ELF64 file (ELF gABI, chapter 5, "Program Header": Elf64_Phdr).
-- No clause of `kexec` reaches what stands here: it serves laws, and contracts inside the crates.
use Rattle.std.specs.Prelude.{◌≡◌, List}
use Rattle.std.specs.List.{AllByRecursion}
use Rattle.kx_fields.specs.Formats.{read}
use Rattle.elf_headers.specs.declared.program_header.ProgramHeader.{ProgramHeader}
use Rattle.elf_headers.specs.ProgramHeader.{program_header, row_text}

-- its bytes read as it is
abbrev pub IsRowReadBack : ProgramHeader → Type 0
IsRowReadBack h = read program_header (row_text h) ≡ h

abbrev pub AreReadBack : List ProgramHeader → Type 0
AreReadBack hs = AllByRecursion IsRowReadBack hs
