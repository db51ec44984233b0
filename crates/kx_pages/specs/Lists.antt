-- Membership and counting on lists of numbers and pairs, as the definitions of lists, loads and segments use them (this
-- project's own).
use Rattle.std.specs.Prelude.{◌≡◌, ◌≢◌, ℕ, ◌+◌, ◌⊎◌, ◌||◌, Bool, false, List, [], ◌∷◌, map, if◌then◌else◌, ◌==◌}
use Rattle.std.specs.List.{AllByRecursion}

-- p stands in the list
abbrev pub Has : ℕ → List ℕ → Type 0
Has p [] = ⊥
Has p (x ∷ xs) = (x ≡ p) ⊎ Has p xs

-- the test of it
abbrev pub has : ℕ → List ℕ → Bool
has p [] = false
has p (x ∷ xs) = x == p || has p xs

-- no number stands twice
abbrev pub Distinct : List ℕ → Type 0
Distinct [] = Unit {0}
Distinct (x ∷ xs) = AllByRecursion (λ y. x ≢ y) xs × Distinct xs

-- how often x stands in the list
abbrev pub count : ℕ → List ℕ → ℕ
count x [] = 0
count x (y ∷ ys) = (if y == x then 1 else 0) + count x ys

-- the destinations of pairs of destination and source page
abbrev pub destinations : List (ℕ × ℕ) → List ℕ
destinations qs = map (λ q. q.0) qs

-- and their sources
abbrev pub sources : List (ℕ × ℕ) → List ℕ
sources qs = map (λ q. q.1) qs
