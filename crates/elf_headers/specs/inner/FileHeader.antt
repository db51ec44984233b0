-- The file header of an ELF64 file (ELF gABI, chapter 4, "ELF Header": Elf64_Ehdr), behind its identification, and that
-- of a core file.
-- No clause of `kexec` reaches what stands here: it serves laws, and contracts inside the crates.
use Rattle.std.specs.Prelude.{◌≡◌}
use Rattle.kx_fields.specs.Formats.{read}
use Rattle.elf_headers.specs.declared.file_header.FileHeader.{FileHeader}
use Rattle.elf_headers.specs.FileHeader.{file_header, header_text}

-- its bytes read as it is
abbrev pub IsHeaderReadBack : FileHeader → Type 0
IsHeaderReadBack h = read file_header (header_text h) ≡ h
