-- How many link pages a reading may have.
use Rattle.std.proofs.Common.{◌≡◌, ℕ, zero, suc, ◌<◌, ◌≤◌, List, [], ◌∷◌, length, refl, ap, inl, inr, arith}
use Rattle.std.specs.List.{AllByRecursion}
use Rattle.std.specs.Prelude.{◌≢◌, ◌⊎◌, true, false, eqb}
use Rattle.std.proofs.lemmas.Bool.Decides.{eqb_tells}
use Rattle.kimage_list.proofs.Counting.{counted_fit}
use Rattle.kx_pages.specs.Lists.{Has, count}
use Rattle.kx_pages.proofs.Lists.{Each-map}

abbrev below : ℕ → List ℕ
below zero = []
below (suc n) = n ∷ below n

has_below : (n x : ℕ) → x < n → Has x (below n)
has_below zero x l = absurd (omega (arith, l))
has_below (suc n) x l = go (eqb_tells n x) (has_below n x)
  where
    go : ((eqb n x ≡ true) × (n ≡ x)) ⊎ ((eqb n x ≡ false) × (n ≢ x)) → (x < n → Has x (below n)) → Has x (below (suc n))
    go (inl e) ih = inl e.1
    go (inr e) ih = inr (ih (omega (arith, l, e.1)))

length-below : (n : ℕ) → length (below n) ≡ n
length-below zero = refl
length-below (suc n) = ap suc (length-below n)

-- distinct numbers below n are at most n
pub room : (n : ℕ) (xs : List ℕ) → ((x : ℕ) → count x xs ≤ 1) → AllByRecursion (λ x. x < n) xs → length xs ≤ n
room n xs c h = let r = counted_fit xs (below n) c (Each-map xs (λ x l. has_below n x l) h) in omega (arith, r, length-below n)
