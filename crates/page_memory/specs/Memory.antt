-- Memory as a function, and how it changes. The definitions of lists, loads and runs speak of memory so. This project's
-- own.
use Rattle.std.specs.Prelude.{◌≡◌, ℕ, ◌/◌, ◌%◌, List, drop, if◌then◌else◌, ◌==◌}
use Rattle.byteorder.specs.Endian.{little_number}
use Rattle.kx_pages.specs.Bytes.{Mem}

-- the little-endian number in the eight bytes at this address, which is a multiple of 8
unfoldable pub word : Mem → ℕ → ℕ
word M a = little_number 8 (drop (a % 4096) (M (a / 4096)))

-- the memory with this page set to these bytes
abbrev pub put : Mem → ℕ → List ℕ → Mem
put M p bytes q = if q == p then bytes else M q

-- two memories agree at every page
abbrev pub Agree : Mem → Mem → Type 0
Agree M N = (p : ℕ) → M p ≡ N p
