-- The bytes of the fields so far, as a row of bits (this project's own).
-- No clause of `kexec` reaches what stands here: it serves laws, and contracts inside the crates.
use Rattle.std.specs.Prelude.{◌≡◌, ℕ, ◌+◌, ◌*◌, ◌/◌, ◌%◌, ◌==◌, ◌&&◌, Bool, List, nat_lt, nat_le, length, slice_index}
use Rattle.std.specs.List.{list_any}
use Rattle.std.specs.Int.{bit_at}
use Rattle.purgatory_link.specs.declared.put.Put.{Put}

-- bit i of a word is 1
abbrev pub is_set : ℕ → ℕ → Bool
is_set word i = bit_at word i == 1

-- the bit of byte k is 1: a word has the bits of 64 bytes, the first byte's lowest
abbrev pub is_taken : List ℕ → ℕ → Bool
is_taken words k = is_set (slice_index words (k / 64)) (k % 64)

-- so many bytes have a bit
abbrev pub room : List ℕ → ℕ
room words = 64 * length words

-- byte k is one of the w at this place
abbrev pub is_among : ℕ → ℕ → ℕ → Bool
is_among at w k = nat_le at k && nat_lt k (at + w)

-- byte k is one of a field's
abbrev pub has : ℕ → Put → Bool
has k p = is_among p.at p.wide k

-- the bits that are 1 are those of the fields' bytes
pub record AreTaken (puts : List Put) (words : List ℕ) : Type 0 where
  pub same : (k : ℕ) → is_taken words k ≡ list_any (has k) puts

-- the bits of a row that are 1 are those of some fields
abbrev pub IsRow : List ℕ → Type 0
IsRow words = (puts : List Put) × AreTaken puts words
