-- The record of a load of `abc` to page 2 that took pages 10, 11 and 12, and its file of either version byte for byte
-- (this project's own).
use Rattle.std.specs.Prelude.{ℕ, ◌++◌, List, [], ◌∷◌, codes, replicate, false}
use Rattle.kx_pages.specs.declared.image.Mode.TheVariants.{Plain, Kept}
use Rattle.load_record.specs.File.{Record}
use Rattle.worked_examples.specs.Kernels.{three_bytes}

abbrev pub three_bytes_record : Record
three_bytes_record = record {
  crash = false;
  image = record { head = 0x11002; mode = Plain; control = 0x10 };
  start = record { entry = 0x2000; rax = 0; rbx = 0; rsi = 0 };
  regions = 0;
  digest = 0;
  segments = three_bytes;
}

-- the SHA-256 of `abc`, as FIPS 180-4's examples give it
abbrev pub three_bytes_digest : List ℕ
three_bytes_digest =
    0xba ∷ 0x78 ∷ 0x16 ∷ 0xbf ∷ 0x8f ∷ 0x01 ∷ 0xcf ∷ 0xea ∷ 0x41 ∷ 0x41 ∷ 0x40 ∷ 0xde ∷ 0x5d
    ∷ 0xae ∷ 0x22 ∷ 0x23 ∷ 0xb0 ∷ 0x03 ∷ 0x61 ∷ 0xa3 ∷ 0x96 ∷ 0x17 ∷ 0x7a ∷ 0x9c ∷ 0xb4 ∷ 0x10
    ∷ 0xff ∷ 0x61 ∷ 0xf2 ∷ 0x00 ∷ 0x15 ∷ 0xad ∷ []

-- the magic, kind, mode, head word, control and swap page, entry, six numbers that are 0, one segment: its address, its
-- memory, its number of bytes, a digest, and its bytes
abbrev pub three_bytes_by : List ℕ → List ℕ → List ℕ
three_bytes_by magic digest =
    magic
    ++ (replicate 8 0
    ++ (2 ∷ 0x10 ∷ 1 ∷ replicate 5 0 ++ (0 ∷ 0 ∷ 1 ∷ replicate 5 0 ++ (replicate 8 0
    ++ (0 ∷ 0x20 ∷ replicate 6 0 ++ (replicate 40 0 ++ (1 ∷ replicate 7 0
    ++ (0 ∷ 0x20 ∷ replicate 6 0
    ++ (0 ∷ 0x10 ∷ replicate 6 0 ++ (3 ∷ replicate 7 0 ++ (digest ++ codes "abc")))))))))))

-- its file, which is of version 2
abbrev pub three_bytes_file : List ℕ
three_bytes_file = three_bytes_by (codes "KXREC002") three_bytes_digest

-- how version 1 spells it, without a digest
abbrev pub three_bytes_first : List ℕ
three_bytes_first = three_bytes_by (codes "KXREC001") []

-- the record of a load with context preserved, in which no two numbers are the same
abbrev pub kept_record : Record
kept_record = record {
  crash = false;
  image = record { head = 0x12002; mode = Kept 0x11; control = 0x10 };
  start = record { entry = 0x2000; rax = 0xa; rbx = 0xb; rsi = 0xc };
  regions = 0xd;
  digest = 0xe;
  segments = three_bytes;
}
