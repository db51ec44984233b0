-- The files of the examples, and what is read of them (this project's own).
use Rattle.std.specs.Prelude.{ℕ, ◌++◌, List, [], ◌∷◌, Some, None, false, codes, replicate}
use Rattle.kx_edge.specs.Edge.{Files}
use Rattle.kx_pages.specs.declared.image.ImageType.TheVariants.{Auto, Raw}
use Rattle.kx_pages.specs.declared.image.Mode.TheVariants.{Plain}
use Rattle.memory_map.specs.Maps.{MapValue}
use Rattle.segments.specs.Values.{SegmentValue}
use Rattle.load_record.specs.File.{Record}
use Rattle.kexec_plan.specs.Requests.{Asked}
use Rattle.command_parts.specs.declared.reason.InputFault.{InputFault}
use Rattle.command_parts.specs.declared.reason.Reason.{Reason}
use Rattle.command_parts.specs.declared.reason.Reason.TheVariants as reasons
use Rattle.load_commands.specs.Inputs.{LoadInputs}
use Rattle.file_commands.specs.Taking.{File, Refusal, by}
use Rattle.worked_commands.specs.Shelves.{holding}
use Rattle.worked_commands.specs.Texts.{no_memory}

-- the memory file without pages
abbrev pub no_pages_file : List ℕ
no_pages_file = codes "KXMEM001" ++ replicate 8 0

-- `abc` at page 2
abbrev pub three_bytes : List SegmentValue
three_bytes = record { bytes = codes "abc"; mem = 0x2000; memsz = 0x1000 } ∷ []

-- the record of a load of it that took pages 10, 11 and 12
abbrev pub three_bytes_record : Record
three_bytes_record = record {
  crash = false;
  image = record { head = 0x11002; mode = Plain; control = 0x10 };
  start = record { entry = 0x2000; rax = 0; rbx = 0; rsi = 0 };
  regions = 0;
  digest = 0;
  segments = three_bytes;
}

-- the SHA-256 of `abc`, as FIPS 180-4's examples give it
abbrev pub three_bytes_digest : List ℕ
three_bytes_digest =
    0xba ∷ 0x78 ∷ 0x16 ∷ 0xbf ∷ 0x8f ∷ 0x01 ∷ 0xcf ∷ 0xea ∷ 0x41 ∷ 0x41 ∷ 0x40 ∷ 0xde ∷ 0x5d
    ∷ 0xae ∷ 0x22 ∷ 0x23 ∷ 0xb0 ∷ 0x03 ∷ 0x61 ∷ 0xa3 ∷ 0x96 ∷ 0x17 ∷ 0x7a ∷ 0x9c ∷ 0xb4 ∷ 0x10
    ∷ 0xff ∷ 0x61 ∷ 0xf2 ∷ 0x00 ∷ 0x15 ∷ 0xad ∷ []

-- its file: the magic, kind and mode, head word, control and swap page, entry, three registers, regions and digest, one
-- segment: its address, its memory, its number of bytes, its digest and its bytes
abbrev pub three_bytes_file : List ℕ
three_bytes_file =
    codes "KXREC002"
    ++ (replicate 8 0
    ++ (2 ∷ 0x10 ∷ 1 ∷ replicate 5 0 ++ (0 ∷ 0 ∷ 1 ∷ replicate 5 0 ++ (replicate 8 0
    ++ (0 ∷ 0x20 ∷ replicate 6 0 ++ (replicate 40 0 ++ (1 ∷ replicate 7 0
    ++ (0 ∷ 0x20 ∷ replicate 6 0
    ++ (0 ∷ 0x10 ∷ replicate 6 0
    ++ (3 ∷ replicate 7 0 ++ (three_bytes_digest ++ codes "abc")))))))))))

-- a file of each kind
abbrev pub each_of : List File
each_of =
    (codes "m", no_pages_file) ∷ (codes "p", codes "10-12\n") ∷ (codes "k", codes "abc")
    ∷ (codes "t", codes "00000000-01ffffff : System RAM\n") ∷ (codes "i", codes "ii")
    ∷ (codes "g", codes "gggg")
    ∷ (codes "x", codes "xx\n") ∷ (codes "y", codes "y") ∷ (codes "n", codes "200000 400\n")
    ∷ (codes "r", three_bytes_file)
    ∷ (codes "l", codes "2 13\n") ∷ (codes "e", codes "panic\n") ∷ []

abbrev pub each_file : Files
each_file = holding each_of

-- the same, but that the files of these names are `?`, which no reader takes
abbrev pub spoiled_of : List (List ℕ) → List File
spoiled_of [] = each_of
spoiled_of (name ∷ names) = (name, codes "?") ∷ spoiled_of names

abbrev pub spoiled : List (List ℕ) → Files
spoiled names = holding (spoiled_of names)

-- the same, but that the pool has two pages
abbrev pub short_pool_of : List File
short_pool_of = (codes "p", codes "10-11\n") ∷ each_of

abbrev pub short_pool : Files
short_pool = holding short_pool_of

-- the reader of a file refused it
abbrev pub unreadable : InputFault → Refusal Reason
unreadable fault = by (reasons.Input fault)

-- 32 MiB of RAM
abbrev pub all_ram : MapValue
all_ram = record { rows = record { start = 0; size = 0x2000000; kind = 1 } ∷ []; areas = [] }

-- what is asked of the kernel `abc` alone
abbrev pub few_asked : Asked
few_asked = record {
  crash = false;
  image = Raw 0x2000 0x2000;
  kernel = codes "abc";
  initrd = None;
  command = None;
  modules = [];
  purgatory = None;
  notes = [];
}

-- what is asked of all files
abbrev pub all_asked : Asked
all_asked = record {
  crash = false;
  image = Auto;
  kernel = codes "abc";
  initrd = Some (codes "ii");
  command = Some (codes "quiet");
  modules =
      record { bytes = codes "xx\n"; text = codes "x" }
      ∷ record { bytes = codes "y"; text = codes "y" } ∷ [];
  purgatory = Some (codes "gggg");
  notes = [];
}

-- what the load of `abc` alone is made of
abbrev pub few_read : LoadInputs
few_read = record {
  memory = no_memory;
  usable = 0x10 ∷ 0x11 ∷ 0x12 ∷ [];
  map = None;
  request = few_asked;
}
