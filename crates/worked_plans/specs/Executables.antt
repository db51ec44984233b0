-- ELF executables for x86-64, byte for byte (ELF gABI, chapters 4 and 5): `abc` from byte 176 on goes to 0x100000, and
-- `de` from byte 179 on to 0x102004, in 12 bytes of memory.
use Rattle.std.specs.Prelude.{ℕ, ◌++◌, List, [], ◌∷◌, codes, replicate}
use Rattle.byteorder.specs.Endian.{little_bytes}
use Rattle.segments.specs.Values.{SegmentValue}

-- the file header of an ELF64 file of this type, for this machine, with so many program headers behind it
abbrev pub file_header : (kind machine loads : ℕ) → List ℕ
file_header kind machine loads =
    0x7f ∷ codes "ELF" ++ (2 ∷ 1 ∷ 1 ∷ replicate 9 0
    ++ (little_bytes 2 kind ++ (little_bytes 2 machine ++ (little_bytes 4 1
    ++ (little_bytes 8 0x10_2004 ++ (little_bytes 8 64 ++ (little_bytes 8 0 ++ (little_bytes 4 0
    ++ (little_bytes 2 64 ++ (little_bytes 2 56 ++ (little_bytes 2 loads
    ++ (little_bytes 2 64 ++ (little_bytes 2 0 ++ little_bytes 2 0)))))))))))))

-- a PT_LOAD of these bytes of the file to this address
abbrev pub load_row : (offset paddr filesz memsz : ℕ) → List ℕ
load_row offset paddr filesz memsz =
    little_bytes 4 1
    ++ (little_bytes 4 7 ++ (little_bytes 8 offset ++ (little_bytes 8 paddr
    ++ (little_bytes 8 paddr ++ (little_bytes 8 filesz ++ (little_bytes 8 memsz
    ++ little_bytes 8 4096))))))

abbrev pub executable : List ℕ
executable =
    file_header 2 62 2
    ++ (load_row 176 0x10_0000 3 3 ++ (load_row 179 0x10_2004 2 12 ++ codes "abcde"))

-- an ELF32 executable without program headers
abbrev pub small_executable : List ℕ
small_executable =
    0x7f ∷ codes "ELF" ++ (1 ∷ 1 ∷ 1 ∷ replicate 9 0
    ++ (little_bytes 2 2 ++ (little_bytes 2 3 ++ (little_bytes 4 1
    ++ (little_bytes 4 0x10_0000 ++ (little_bytes 4 52 ++ (little_bytes 4 0 ++ (little_bytes 4 0
    ++ (little_bytes 2 52 ++ (little_bytes 2 32 ++ (little_bytes 2 0
    ++ (little_bytes 2 40 ++ (little_bytes 2 0 ++ little_bytes 2 0)))))))))))))

abbrev pub executable_segments : List SegmentValue
executable_segments =
    record { bytes = codes "abc"; mem = 0x10_0000; memsz = 0x1000 }
    ∷ record { bytes = replicate 4 0 ++ codes "de"; mem = 0x10_2000; memsz = 0x1000 } ∷ []
