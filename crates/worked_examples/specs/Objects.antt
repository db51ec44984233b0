-- Relocatable objects (ELF gABI; x86-64 psABI). A purgatory of two sections: 16 bytes of code, which a relocation changes,
-- and 4 zeros at a multiple of 8. Its relocation stands at byte 64 of the file.
use Rattle.std.specs.Prelude.{ℕ, ◌++◌, List, [], ◌∷◌, codes, replicate, true, false}
use Rattle.byteorder.specs.Endian.{little_bytes}
use Rattle.elf_image.specs.Object.{Relocatable}
use Rattle.elf_image.specs.declared.section.Section.{Section}

-- a section without bytes of its own
abbrev pub no_section : Section
no_section = record { kind = 0; alloc = false; offset = 0; size = 0; align = 0; target = 0 }

-- the object: a symbol without a section that has this value, and one that is 4 bytes behind the start of the code
abbrev pub object_with : ℕ → Relocatable
object_with value = record {
  sections =
      no_section ∷ record { kind = 1; alloc = true; offset = 0; size = 16; align = 16; target = 0 }
      ∷ record { kind = 8; alloc = true; offset = 0; size = 4; align = 8; target = 0 }
      ∷ record { kind = 4; alloc = false; offset = 64; size = 24; align = 8; target = 1 } ∷ [];
  symbols =
      record { name = []; section = 0; value = 0; size = 0 }
      ∷ record { name = codes "abs"; section = 0xfff1; value = value; size = 0 }
      ∷ record { name = codes "start"; section = 1; value = 4; size = 12 } ∷ [];
  reloc_sections = record { section = 3; target = 1; offset = 64; count = 1 } ∷ [];
}

-- its file: the code, and the entry of a relocation of this kind against this symbol, 8 bytes behind the start of the code
abbrev pub file_with : (kind symbol : ℕ) → List ℕ
file_with kind symbol =
    replicate 16 0x90
    ++ (replicate 48 0
    ++ (little_bytes 8 8 ++ (little_bytes 4 kind ++ (little_bytes 4 symbol ++ replicate 8 0))))

-- ---- a whole file: its code of 8 bytes at 64, its two symbols at 72, their names at 120, one relocation at 128, and five
-- section headers from 152 on

abbrev pub object_header_of : (kind machine : ℕ) → List ℕ
object_header_of kind machine =
    0x7f ∷ codes "ELF" ++ (2 ∷ 1 ∷ 1 ∷ replicate 9 0
    ++ (little_bytes 2 kind ++ (little_bytes 2 machine ++ (little_bytes 4 1 ++ (replicate 16 0
    ++ (little_bytes 8 152 ++ (replicate 4 0
    ++ (little_bytes 2 64 ++ (replicate 4 0 ++ (little_bytes 2 64
    ++ (little_bytes 2 5 ++ replicate 2 0)))))))))))

-- sh_name, sh_type, sh_flags, sh_addr, sh_offset, sh_size, sh_link, sh_info, sh_addralign, sh_entsize
abbrev pub section_row : (kind flags offset size link info align entsize : ℕ) → List ℕ
section_row kind flags offset size link info align entsize =
    replicate 4 0
    ++ (little_bytes 4 kind ++ (little_bytes 8 flags ++ (replicate 8 0 ++ (little_bytes 8 offset
    ++ (little_bytes 8 size ++ (little_bytes 4 link ++ (little_bytes 4 info
    ++ (little_bytes 8 align ++ little_bytes 8 entsize))))))))

-- with these numbers of the symbol's section and of the relocation's symbol
abbrev pub object_file : (kind section symbol : ℕ) → List ℕ
object_file kind section symbol =
    object_header_of kind 62
    ++ (replicate 8 0x90
    ++ (replicate 24 0
    ++ (little_bytes 4 1 ++ (0x12 ∷ 0
    ∷ little_bytes 2 section ++ (little_bytes 8 4 ++ (little_bytes 8 2
    ++ (0 ∷ codes "start" ++ (0 ∷ 0
    ∷ little_bytes 8 2 ++ (little_bytes 4 2 ++ (little_bytes 4 symbol ++ (replicate 8 0xff
    ++ (section_row 0 0 0 0 0 0 0 0
    ++ (section_row 1 6 64 8 0 0 16 0
    ++ (section_row 2 0 72 48 3 1 8 24
    ++ (section_row 3 0 120 7 0 0 1 0
    ++ section_row 4 0 128 24 2 1 8 24)))))))))))))))

abbrev pub object_read : Relocatable
object_read = record {
  sections =
      no_section ∷ record { kind = 1; alloc = true; offset = 64; size = 8; align = 16; target = 0 }
      ∷ record { kind = 2; alloc = false; offset = 72; size = 48; align = 8; target = 1 }
      ∷ record { kind = 3; alloc = false; offset = 120; size = 7; align = 1; target = 0 }
      ∷ record { kind = 4; alloc = false; offset = 128; size = 24; align = 8; target = 1 } ∷ [];
  symbols =
      record { name = []; section = 0; value = 0; size = 0 }
      ∷ record { name = codes "start"; section = 1; value = 4; size = 2 } ∷ [];
  reloc_sections = record { section = 4; target = 1; offset = 128; count = 1 } ∷ [];
}
