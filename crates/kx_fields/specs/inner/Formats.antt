-- Formats: what stands at which place of some bytes, said once. A format of S lists where the numbers of an S stand;
-- reading, writing and all laws follow from it. All of this is this project's own.
-- No clause of `kexec` reaches what stands here: it serves laws, and contracts inside the crates.
use Rattle.std.specs.Prelude.{◌≡◌, ℕ, ◌+◌, ◌<◌, ◌^◌, Bool, true, List, [], ◌∷◌, ◌++◌, nat_le, nat_lt, nat_eq, ◌&&◌, ◌||◌, if◌then◌else◌}
use Rattle.byteorder.specs.Endian.{little_bytes}
use Rattle.kx_fields.specs.Fields.{field}
use Rattle.kx_fields.specs.Formats.{Table, Format, table}

-- each is below 256
abbrev pub are_bytes : List ℕ → Bool
are_bytes [] = true
are_bytes (x ∷ xs) = nat_lt x 256 && are_bytes xs

-- the numbers that `at` tells of the fields
abbrev pub values_by : (ℕ → ℕ → ℕ) → Table → List ℕ
values_by at [] = []
values_by at (p ∷ ps) = at p.0 p.1 ∷ values_by at ps

-- the numbers in the fields of these bytes
abbrev pub values_at : Table → List ℕ → List ℕ
values_at table bytes = values_by (λ at w. field at w bytes) table

-- as many numbers as fields, and each fits its own
abbrev pub Fit : Table → List ℕ → Type 0
Fit [] [] = Unit {0}
Fit [] (v ∷ vs) = ⊥
Fit (p ∷ ps) [] = ⊥
Fit (p ∷ ps) (v ∷ vs) = (v < 256 ^ p.1) × Fit ps vs

-- the u bytes at b have none in common with the fields
abbrev pub is_outside : ℕ → ℕ → Table → Bool
is_outside b u [] = true
is_outside b u (p ∷ ps) = (nat_le (b + u) p.0 || nat_le (p.0 + p.1) b) && is_outside b u ps

-- the fields lie in n bytes, and no two have a byte in common
abbrev pub is_table : ℕ → Table → Bool
is_table n [] = true
is_table n (p ∷ ps) = nat_le (p.0 + p.1) n && (is_outside p.0 p.1 ps && is_table n ps)

-- the fields follow one another from this place up to n
abbrev pub is_packed : ℕ → ℕ → Table → Bool
is_packed n at [] = nat_eq at n
is_packed n at (p ∷ ps) = nat_eq p.0 at && is_packed n (at + p.1) ps

-- each number of s fits its field
abbrev pub Fits : {S : Type 0} → Format S → S → Type 0
Fits f s = Fit (table f) (f.numbers s)

-- the number at a place, of these numbers of a table's fields
abbrev pub value_of : Table → List ℕ → ℕ → ℕ
value_of [] vs at = 0
value_of (p ∷ ps) [] at = 0
value_of (p ∷ ps) (v ∷ vs) at = if nat_eq p.0 at then v else value_of ps vs at

-- s has no more than its numbers
abbrev pub IsOfNumbers : {S : Type 0} → Format S → S → Type 0
IsOfNumbers f s = f.layout (λ at w. value_of (table f) (f.numbers s) at) ≡ s

-- f is a format in n bytes: its numbers are those that its layout takes, an S that it takes has no more than them, and
-- its fields lie inside and are apart
pub record IsFormat {S : Type 0} (n : ℕ) (f : Format S) : Type 0 where
  pub numbered : (at : ℕ → ℕ → ℕ) → ((a w : ℕ) → at a w < 256 ^ w)
      → f.numbers (f.layout at) ≡ values_by at (table f)
  pub whole : (at : ℕ → ℕ → ℕ) → ((a w : ℕ) → at a w < 256 ^ w) → IsOfNumbers f (f.layout at)
  pub apart : is_table n (table f) ≡ true

-- these numbers one after another, each in as many bytes as its field
abbrev pub texts : Table → List ℕ → List ℕ
texts [] vs = []
texts (p ∷ ps) [] = []
texts (p ∷ ps) (v ∷ vs) = little_bytes p.1 v ++ texts ps vs
