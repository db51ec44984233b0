-- An ELF64 executable for x86-64 with two program headers, byte for byte (ELF gABI, chapters 4 and 5): `abc` from byte 176
-- on goes to 0x100000, and `de` from byte 179 on to 0x100900, in 4,096 bytes of memory.
use Rattle.std.specs.Prelude.{ℕ, ◌++◌, List, [], ◌∷◌, codes, replicate}
use Rattle.byteorder.specs.Endian.{little_bytes}
use Rattle.elf_image.specs.declared.load.Load.{Load}

-- e_ident: the magic number, ELFCLASS64, ELFDATA2LSB, EV_CURRENT
abbrev pub ident : List ℕ
ident = 0x7f ∷ codes "ELF" ++ (2 ∷ 1 ∷ 1 ∷ replicate 9 0)

-- a file header with this type and machine: the program headers follow it, and there are no section headers
abbrev pub file_header_of : (kind machine : ℕ) → List ℕ
file_header_of kind machine =
    ident
    ++ (little_bytes 2 kind ++ (little_bytes 2 machine ++ (little_bytes 4 1
    ++ (little_bytes 8 0x10_0900 ++ (little_bytes 8 64 ++ (little_bytes 8 0 ++ (little_bytes 4 0
    ++ (little_bytes 2 64 ++ (little_bytes 2 56 ++ (little_bytes 2 2
    ++ (little_bytes 2 64 ++ (little_bytes 2 0 ++ little_bytes 2 0))))))))))))

-- a PT_LOAD of these bytes of the file to this address
abbrev pub load_row : (offset paddr filesz memsz : ℕ) → List ℕ
load_row offset paddr filesz memsz =
    little_bytes 4 1
    ++ (little_bytes 4 7 ++ (little_bytes 8 offset ++ (little_bytes 8 paddr
    ++ (little_bytes 8 paddr ++ (little_bytes 8 filesz ++ (little_bytes 8 memsz
    ++ little_bytes 8 4096))))))

-- the file with its second load at this address
abbrev pub executable_at : ℕ → List ℕ
executable_at second =
    file_header_of 2 62
    ++ (load_row 176 0x10_0000 3 3 ++ (load_row 179 second 2 0x1000 ++ codes "abcde"))

abbrev pub two_loads : List Load
two_loads =
    record { offset = 176; filesz = 3; paddr = 0x10_0000; memsz = 3 }
    ∷ record { offset = 179; filesz = 2; paddr = 0x10_0900; memsz = 0x1000 } ∷ []
