-- A sample: the segments, the memory and the pool that a number makes, and how its kernel starts
-- (this project's own).
use Rattle.std.specs.Prelude.{ℕ, ◌+◌, ◌*◌, ◌%◌, ◌&&◌, List, [], ◌∷◌, map, replicate, nat_le, nat_lt, if◌then◌else◌}
use Rattle.std.specs.List.{flat_map, range_with_len}
use Rattle.sha2.specs.Sha256.{sha256}
use Rattle.kx_pages.specs.declared.image.Start.{Start}
use Rattle.page_memory.specs.Contents.{zero_page}
use Rattle.kx_pages.specs.Bytes.{Mem}
use Rattle.segments.specs.Values.{SegmentValue}
use Rattle.sample_load.specs.DrawnSegments.{segments_from}

-- the sixteen segments that are drawn from the number, from page 0x1000 on
abbrev pub sample_segments : ℕ → List SegmentValue
sample_segments number = segments_from 16 0 number 4096

-- a page each of whose bytes is this one
unfoldable pub page_full_of : ℕ → List ℕ
page_full_of byte = replicate 4096 byte

-- the memory in which each page from 0x1000 to before `end` is full of a byte of its own
abbrev pub filled_before : (end : ℕ) → Mem
filled_before end p =
    if nat_le 4096 p && nat_lt p end then page_full_of (1 + p % 251) else zero_page

-- the memory: pages 0x1000 to 0x4fff are full, the others zeros
abbrev pub sample_memory : Mem
sample_memory = filled_before 20480

-- page k of the pool
abbrev pub pool_page : ℕ → ℕ
pool_page k = 4096 + 40503 * k % 16384

-- so many pages of the pool, in the order in which they are drawn
unfoldable pub pool_pages : (count : ℕ) → List ℕ
pool_pages count = map pool_page (range_with_len 0 count)

-- the pool: pages 0x1000 to 0x4fff, each once
abbrev pub sample_pool : List ℕ
sample_pool = pool_pages 16384

-- what so many pages from number `first` on read as, one behind the other
unfoldable pub pages_of : Mem → (first count : ℕ) → List ℕ
pages_of M first count = flat_map M (range_with_len first count)

-- the digest of a memory: SHA-256 (FIPS 180-4) of its pages 0x1000 to 0x4fff
abbrev pub memory_digest : Mem → List ℕ
memory_digest M = sha256 (pages_of M 4096 16384)

-- the kernel is entered at its first segment
abbrev pub start_of : List SegmentValue → Start
start_of [] = record { entry = 0; rax = 0; rbx = 0; rsi = 0 }
start_of (s ∷ ss) = record { entry = s.mem; rax = 0; rbx = 0; rsi = 0 }
