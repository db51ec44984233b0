-- The file header of an ELF64 file (ELF gABI, chapter 4, "ELF Header": Elf64_Ehdr), behind its identification, and that
-- of a core file.
use Rattle.std.specs.Prelude.{ℕ, List, [], ◌∷◌, replicate}
use Rattle.kx_fields.specs.Formats.{Format, blank, written}
use Rattle.elf_headers.specs.declared.file_header.FileHeader.{FileHeader}
use Rattle.elf_headers.specs.Numbers.{et_core, em_x86_64}

-- e_ident: ELFCLASS64, ELFDATA2LSB, EV_CURRENT
abbrev pub ident : List ℕ
ident = 0x7f ∷ 0x45 ∷ 0x4c ∷ 0x46 ∷ 2 ∷ 1 ∷ 1 ∷ replicate 9 0

abbrev pub file_header : Format FileHeader
file_header = record {
  layout = λ at. record {
    kind = at 16 2;
    machine = at 18 2;
    version = at 20 4;
    entry = at 24 8;
    phoff = at 32 8;
    shoff = at 40 8;
    flags = at 48 4;
    ehsize = at 52 2;
    phentsize = at 54 2;
    phnum = at 56 2;
    shentsize = at 58 2;
    shnum = at 60 2;
    shstrndx = at 62 2;
  };
  numbers =
      λ h. h.kind ∷ h.machine ∷ h.version ∷ h.entry ∷ h.phoff ∷ h.shoff ∷ h.flags ∷ h.ehsize
      ∷ h.phentsize ∷ h.phnum ∷ h.shentsize ∷ h.shnum ∷ h.shstrndx ∷ [];
}

-- the first 64 bytes of a file
unfoldable pub header_text : FileHeader → List ℕ
header_text h = written file_header h (blank 64 ident)

-- ET_CORE for EM_X86_64 with n program headers right behind the file header, and no sections
abbrev pub core_header : ℕ → FileHeader
core_header n = record {
  kind = et_core;
  machine = em_x86_64;
  version = 1;
  entry = 0;
  phoff = 64;
  shoff = 0;
  flags = 0;
  ehsize = 64;
  phentsize = 56;
  phnum = n;
  shentsize = 0;
  shnum = 0;
  shstrndx = 0;
}
