-- A memory with `abc` at page 2 and, at page 3, a table of one region of three bytes there, and a digest behind it.
use Rattle.std.specs.Prelude.{ℕ, ◌++◌, ◌==◌, List, codes, flat_map, replicate, if◌then◌else◌, [], ◌∷◌}
use Rattle.byteorder.specs.Endian.{little_bytes}
use Rattle.kx_pages.specs.Bytes.{Mem, page_of}

abbrev pub with_digest : List ℕ → Mem
with_digest digest p =
    if p == 2 then page_of (codes "abc")
    else if p == 3
    then page_of (little_bytes 8 0x2000 ++ (little_bytes 8 3 ++ (replicate 240 0 ++ digest)))
    else replicate 4096 0

-- a table of 256 bytes whose first two rows are two bytes at 2fff and one at 5000
abbrev pub two_rows : List ℕ
two_rows =
    flat_map (little_bytes 8) (0x2fff ∷ 2 ∷ 0x5000 ∷ 1 ∷ []) ++ replicate 224 0
