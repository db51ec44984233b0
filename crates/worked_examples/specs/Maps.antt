-- A memory map of a machine with 4 GiB of memory, 256 MiB of them reserved for a crash kernel (this project's own).
use Rattle.std.specs.Prelude.{ℕ, ◌++◌, List, [], ◌∷◌, codes}
use Rattle.kx_pages.specs.Spans.{Run}
use Rattle.memory_map.specs.Maps.{MapValue}

abbrev pub map_text : List ℕ
map_text =
    codes "00001000-0009ffff : System RAM\n"
    ++ (codes "000a0000-000fffff : Reserved\n"
    ++ (codes "00100000-bffdefff : System RAM\n"
    ++ (codes "  2d000000-3cffffff : Crash kernel\n"
    ++ (codes "bffdf000-bfffffff : Reserved\n"
    ++ codes "100000000-13fffffff : System RAM\n"))))

-- what its lines say
abbrev pub map_named : MapValue
map_named = record {
  rows =
      record { start = 0x1000; size = 0x9f000; kind = 1 }
      ∷ record { start = 0xa0000; size = 0x60000; kind = 2 }
      ∷ record { start = 0x100000; size = 0xbfedf000; kind = 1 }
      ∷ record { start = 0xbffdf000; size = 0x21000; kind = 2 }
      ∷ record { start = 0x1_0000_0000; size = 0x4000_0000; kind = 1 } ∷ [];
  areas = record { start = 0x2d000000; size = 0x10000000; kind = 0 } ∷ [];
}

-- its RAM
abbrev pub map_ram : List Run
map_ram =
    record { first = 1; count = 0x9f } ∷ record { first = 0x100; count = 0x2cf00 }
    ∷ record { first = 0x3d000; count = 0x82fdf }
    ∷ record { first = 0x100000; count = 0x40000 } ∷ []

-- the pages beside its borders
abbrev pub ram_borders : List ℕ
ram_borders =
    0 ∷ 1 ∷ 0x9f ∷ 0xa0 ∷ 0xff ∷ 0x100 ∷ 0x2cfff ∷ 0x2d000 ∷ 0x3cfff ∷ 0x3d000 ∷ 0xbffde ∷ 0xbffdf
    ∷ 0xbffff ∷ 0xc0000
    ∷ 0xfffff ∷ 0x100000 ∷ 0x13ffff ∷ 0x140000 ∷ []
