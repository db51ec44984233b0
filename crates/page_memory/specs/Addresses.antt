-- Memory by address (this project's own). A page has 4,096 bytes.
use Rattle.std.specs.Prelude.{ℕ, ◌/◌, ◌%◌, List, map, slice_index}
use Rattle.std.specs.List.{range_with_len}
use Rattle.kx_pages.specs.Bytes.{Mem}

-- the byte at an address
abbrev pub byte_in : Mem → ℕ → ℕ
byte_in M a = slice_index (M (a / 4096)) (a % 4096)

-- so many bytes from an address on
unfoldable pub bytes_in : Mem → ℕ → ℕ → List ℕ
bytes_in M a n = map (byte_in M) (range_with_len a n)
