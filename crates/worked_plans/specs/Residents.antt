-- Two pages of a kernel that hold each other's bytes (this project's own).
use Rattle.std.specs.Prelude.{ℕ, ◌++◌, ◌==◌, List, [], ◌∷◌, Option, codes, replicate, if◌then◌else◌}
use Rattle.byteorder.specs.Endian.{little_bytes}
use Rattle.kx_pages.specs.Bytes.{Mem, page_of}
use Rattle.segments.specs.Values.{SegmentValue}
use Rattle.resident_planner.specs.Refusals.{resident_of}

-- the kernel: page 2 begins with `b`, and page 3 with `c`
abbrev pub two_pages : List SegmentValue
two_pages =
    record { bytes = codes "b" ++ replicate 4095 0 ++ codes "c"; mem = 0x2000; memsz = 0x2000 } ∷ []

abbrev pub both_ways : List (ℕ × ℕ)
both_ways = (2, 3) ∷ (3, 2) ∷ []

abbrev pub resident : ℕ → Option ℕ
resident = resident_of both_ways

-- a memory in which page 3 begins with `b`, and every other page with `c`
abbrev pub exchanged : Mem
exchanged p = if p == 3 then page_of (codes "b") else page_of (codes "c")

-- the words of the list: destination 3, source 2, destination 2, source 12, done; then zeros
abbrev pub words : List ℕ
words =
    little_bytes 8 0x3001
    ++ (little_bytes 8 0x2008 ++ (little_bytes 8 0x2001 ++ (little_bytes 8 0x1_2008
    ++ (little_bytes 8 4 ++ replicate 4056 0))))
