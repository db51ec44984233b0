-- A purgatory (ELF gABI, chapter 4): one loaded section of 432 bytes with the registers at its start, the table of regions
-- at 0x88, the digest at 0x188, and the start at 0x1a8.
use Rattle.std.specs.Prelude.{ℕ, ◌+◌, ◌++◌, List, [], ◌∷◌, codes, replicate, true, false}
use Rattle.byteorder.specs.Endian.{little_bytes}
use Rattle.kx_pages.specs.declared.image.Start.{Start}
use Rattle.elf_image.specs.Object.{Relocatable}
use Rattle.purgatory_link.specs.Sym.{Image}
use Rattle.kexec_plan.specs.Purgatory.{PurgatoryValue, Linkage}

-- e_shoff is 696: the section headers stand behind 432 bytes of code, 120 bytes of symbols, and 76 and 4 bytes of names
abbrev pub object_header : (kind machine : ℕ) → List ℕ
object_header kind machine =
    0x7f ∷ codes "ELF" ++ (2 ∷ 1 ∷ 1 ∷ replicate 9 0
    ++ (little_bytes 2 kind ++ (little_bytes 2 machine ++ (little_bytes 4 1 ++ (replicate 16 0
    ++ (little_bytes 8 696 ++ (replicate 4 0
    ++ (little_bytes 2 64 ++ (replicate 4 0 ++ (little_bytes 2 64
    ++ (little_bytes 2 4 ++ replicate 2 0)))))))))))

-- st_name, st_info, st_other, st_shndx, st_value, st_size: a symbol of section 1
abbrev pub symbol_row : (name value size : ℕ) → List ℕ
symbol_row name value size =
    little_bytes 4 name ++ (0x10 ∷ 0
    ∷ little_bytes 2 1 ++ (little_bytes 8 value ++ little_bytes 8 size))

-- sh_name, sh_type, sh_flags, sh_addr, sh_offset, sh_size, sh_link, sh_info, sh_addralign, sh_entsize
abbrev pub section_row : (kind flags offset size link align entsize : ℕ) → List ℕ
section_row kind flags offset size link align entsize =
    replicate 4 0
    ++ (little_bytes 4 kind ++ (little_bytes 8 flags ++ (replicate 8 0 ++ (little_bytes 8 offset
    ++ (little_bytes 8 size ++ (little_bytes 4 link ++ (replicate 4 0
    ++ (little_bytes 8 align ++ little_bytes 8 entsize))))))))

abbrev pub symbol_names : List ℕ
symbol_names =
    0 ∷ codes "entry64_regs" ++ (0
    ∷ codes "purgatory_sha_regions" ++ (0
    ∷ codes "purgatory_sha256_digest"
    ++ (0 ∷ codes "purgatory_start" ++ 0 ∷ [])))

-- the file, with a symbol of the registers of this size
abbrev pub purgatory_file : ℕ → List ℕ
purgatory_file size =
    object_header 1 62
    ++ (replicate 432 0x90
    ++ (replicate 24 0
    ++ (symbol_row 1 0 size
    ++ (symbol_row 14 0x88 256
    ++ (symbol_row 36 0x188 32
    ++ (symbol_row 60 0x1a8 8
    ++ (symbol_names
    ++ (replicate 4 0
    ++ (section_row 0 0 0 0 0 0 0
    ++ (section_row 1 2 64 432 0 16 0
    ++ (section_row 2 0 496 120 3 8 24
    ++ section_row 3 0 616 76 0 1 0)))))))))))

abbrev pub purgatory_read : ℕ → Relocatable
purgatory_read size = record {
  sections =
      record { kind = 0; alloc = false; offset = 0; size = 0; align = 0; target = 0 }
      ∷ record { kind = 1; alloc = true; offset = 64; size = 432; align = 16; target = 0 }
      ∷ record { kind = 2; alloc = false; offset = 496; size = 120; align = 8; target = 0 }
      ∷ record { kind = 3; alloc = false; offset = 616; size = 76; align = 1; target = 0 } ∷ [];
  symbols =
      record { name = []; section = 0; value = 0; size = 0 }
      ∷ record { name = codes "entry64_regs"; section = 1; value = 0; size = size }
      ∷ record { name = codes "purgatory_sha_regions"; section = 1; value = 0x88; size = 256 }
      ∷ record { name = codes "purgatory_sha256_digest"; section = 1; value = 0x188; size = 32 }
      ∷ record { name = codes "purgatory_start"; section = 1; value = 0x1a8; size = 8 } ∷ [];
  reloc_sections = [];
}

abbrev pub purgatory_of : ℕ → PurgatoryValue
purgatory_of size =
    record { object = purgatory_read size; file = purgatory_file size; size = 4096 }

-- linked at this address, and filled with zeros to a page
abbrev pub linkage : ℕ → Linkage
linkage at = record {
  base = at;
  bytes = replicate 432 0x90 ++ replicate 3664 0;
  symbols = record {
    regs = at;
    regions = at + 0x88;
    digest = at + 0x188;
    start = at + 0x1a8;
  };
}

-- ---- 24 linked bytes with two symbols, of which the first has a second of its name
abbrev pub linked_image : Image
linked_image = record {
  base = 0x7000;
  bytes = replicate 24 0x90;
  names =
      record { name = codes "first"; address = 0x7000; size = 8 }
      ∷ record { name = codes "second"; address = 0x7008; size = 16 }
      ∷ record { name = codes "first"; address = 0x7010; size = 8 } ∷ [];
}

-- ---- 449 bytes with bytes of code between the registers, the table and the digest; and 256 bytes, where table and digest
-- overlap
abbrev pub small_linkage : Linkage
small_linkage = record {
  base = 0x7000;
  bytes = replicate 449 0x90;
  symbols = record { regs = 0x7004; regions = 0x7092; digest = 0x7199; start = 0x71b9 };
}

abbrev pub overlapping_linkage : Linkage
overlapping_linkage = record {
  base = 0x7000;
  bytes = replicate 256 0x90;
  symbols = record { regs = 0x7010; regions = 0x7000; digest = 0x7004; start = 0x7000 };
}

-- a start with other numbers in all registers
abbrev pub some_start : Start
some_start = record { entry = 0x1122; rax = 0x33; rbx = 0x44; rsi = 0x55 }
