-- The program headers of an ELF64 file (ELF gABI, chapter 5, "Program Header": Elf64_Phdr).
use Rattle.std.specs.Prelude.{ℕ, List, [], ◌∷◌}
use Rattle.std.specs.List.{flat_map}
use Rattle.kx_fields.specs.Fields.{zeros}
use Rattle.kx_fields.specs.Formats.{Format, written}
use Rattle.elf_headers.specs.declared.program_header.ProgramHeader.{ProgramHeader}

abbrev pub program_header : Format ProgramHeader
program_header = record {
  layout = λ at. record {
    kind = at 0 4;
    flags = at 4 4;
    offset = at 8 8;
    vaddr = at 16 8;
    paddr = at 24 8;
    filesz = at 32 8;
    memsz = at 40 8;
    align = at 48 8;
  };
  numbers =
      λ h. h.kind ∷ h.flags ∷ h.offset ∷ h.vaddr ∷ h.paddr ∷ h.filesz ∷ h.memsz ∷ h.align ∷ [];
}

unfoldable pub row_text : ProgramHeader → List ℕ
row_text h = written program_header h (zeros 56)

-- program headers, one after another
abbrev pub table_text : List ProgramHeader → List ℕ
table_text hs = flat_map row_text hs
