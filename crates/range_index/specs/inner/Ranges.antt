-- Ranges of numbers, and lists of ranges that do not meet (this project's own).
-- No clause of `kexec` reaches what stands here: it serves laws, and contracts inside the crates.
use Rattle.std.specs.Prelude.{◌≡◌, ℕ, ◌<◌, ◌≤◌, ◌||◌, Bool, List, [], ◌∷◌, nat_lt, min, max}
use Rattle.std.specs.List.{list_any}

-- a range: its first number, and the number behind its last
abbrev pub Range : Type 0
Range = ℕ × ℕ

-- some number is in both
abbrev pub ranges_meet : Range → Range → Bool
ranges_meet r s = nat_lt (max r.0 s.0) (min r.1 s.1)

-- some number is in the range and in one of these
abbrev pub meets_any : Range → List Range → Bool
meets_any r rs = list_any (ranges_meet r) rs

-- the ranges rise from b on, each has numbers, and no two meet
abbrev pub AreApart : ℕ → List Range → Type 0
AreApart b [] = Unit {0}
AreApart b (r ∷ rs) = (b ≤ r.0) × (r.0 < r.1) × AreApart r.1 rs

-- `new` has the ranges of `old` and the range r, in whatever order: each test finds in it what it finds in these
abbrev pub AreWith : (old : List Range) → Range → (new : List Range) → Type 0
AreWith old r new = (test : Range → Bool) → list_any test new ≡ (list_any test old || test r)
