-- Laws of counting: how often a number stands in a list, lists of distinct numbers, and how many of these there can be.
use Rattle.std.proofs.Common.{◌≡◌, ℕ, zero, suc, ◌+◌, ◌<◌, ◌≤◌, ◌++◌, List, [], ◌∷◌, length, refl, sym, ap, ◌∙◌, subst, inl, inr, arith, Bool, true, false, cond}
use Rattle.std.specs.Prelude.{◌≢◌, ◌⊎◌, eqb, slice_index}
use Rattle.std.specs.List.{range_with_len, filter, AllByRecursion}
use Rattle.std.proofs.lemmas.Bool.{or_parts}
use Rattle.std.proofs.lemmas.Bool.Decides.{eqb_tells}
use Rattle.std.proofs.lemmas.List.FromFn.{length-range_with_len}
use Rattle.kx_pages.specs.Lists.{Has, has, Distinct, count}
use Rattle.kx_pages.proofs.Lists.{Each-map, Each-filter, Each-both, Each-append, Each-right, Each-from_Has, Has-range, range-Has}

pub count-append : (x : ℕ) (xs ys : List ℕ) → count x (xs ++ ys) ≡ count x xs + count x ys
count-append x [] ys = omega arith
count-append x (y ∷ xs) ys = omega (arith, count-append x xs ys)

pub count-from_Has : (p : ℕ) (xs : List ℕ) → Has p xs → 1 ≤ count p xs
count-from_Has p [] h = absurd h
count-from_Has p (x ∷ xs) (inl e) = grind (arith, e)
count-from_Has p (x ∷ xs) (inr h) = omega (arith, count-from_Has p xs h)

pub count-at : (xs : List ℕ) (i : ℕ) → i < length xs → 1 ≤ count (slice_index xs i) xs
count-at [] i h = absurd (omega (arith, h))
count-at (x ∷ xs) zero h = grind arith
count-at (x ∷ xs) (suc i) h = omega (arith, count-at xs i (omega (arith, h)))

pub Each-from_count : (P : ℕ → Type 0) (xs : List ℕ) → ((x : ℕ) → 1 ≤ count x xs → P x) → AllByRecursion P xs
Each-from_count P [] h = tt
Each-from_count P (x ∷ xs) h = (h x (grind arith), Each-from_count P xs (λ y n. h y (omega (arith, n))))

pub count-from_has_not : (x : ℕ) (ys : List ℕ) → has x ys ≡ false → count x ys ≡ 0
count-from_has_not x [] h = refl
count-from_has_not x (y ∷ ys) h = let p = or_parts (eqb y x) (has x ys) h in let ih = count-from_has_not x ys p.1 in rw p.0 (omega (arith, ih))

-- where p does not stand, each number is another one
pub Each-from_no_count : (p : ℕ) (xs : List ℕ) → count p xs ≡ 0 → AllByRecursion (λ x. x ≢ p) xs
Each-from_no_count p [] h = tt
Each-from_no_count p (x ∷ xs) h = ((λ e. grind (arith, h, e)), Each-from_no_count p xs (omega (arith, h)))

pub no_count-from_Each : (p : ℕ) (xs : List ℕ) → AllByRecursion (λ x. x ≢ p) xs → count p xs ≡ 0
no_count-from_Each p [] h = refl
no_count-from_Each p (x ∷ xs) h = go (eqb_tells x p) (no_count-from_Each p xs h.1)
  where
    go : ((eqb x p ≡ true) × (x ≡ p)) ⊎ ((eqb x p ≡ false) × (x ≢ p)) → count p xs ≡ 0 → count p (x ∷ xs) ≡ 0
    go (inl t) ih = absurd (h.0 t.1)
    go (inr t) ih = rw t.0 (omega (arith, ih))

-- ---- distinct numbers

-- no number stands twice
pub Distinct-from_count : (xs : List ℕ) → ((x : ℕ) → count x xs ≤ 1) → Distinct xs
Distinct-from_count [] h = tt
Distinct-from_count (x ∷ xs) h =
    let z : count x xs ≡ 0 = grind (arith, h x) in
    (Each-map xs (λ y n e. n (sym e)) (Each-from_no_count x xs z), Distinct-from_count xs (λ y. omega (arith, h y)))

pub count-from_Distinct : (x : ℕ) (xs : List ℕ) → Distinct xs → count x xs ≤ 1
count-from_Distinct x [] d = omega arith
count-from_Distinct x (y ∷ xs) d = go (eqb_tells y x) (count-from_Distinct x xs d.1)
  where
    go : ((eqb y x ≡ true) × (y ≡ x)) ⊎ ((eqb y x ≡ false) × (y ≢ x)) → count x xs ≤ 1 → count x (y ∷ xs) ≤ 1
    go (inl t) ih = let z = no_count-from_Each x xs (Each-map xs (λ z n e. n (t.1 ∙ sym e)) d.0) in rw t.0 (omega (arith, z))
    go (inr t) ih = rw t.0 (omega (arith, ih))

pub Distinct-append : (xs ys : List ℕ) → Distinct xs → Distinct ys → ((p : ℕ) → Has p xs → Has p ys → ⊥) → Distinct (xs ++ ys)
Distinct-append [] ys d e apart = e
Distinct-append (x ∷ xs) ys d e apart = (
  Each-append (λ y. x ≢ y) xs ys d.0 (Each-from_Has (λ y. x ≢ y) ys (λ y k same. apart x (inl refl) (subst (λ z. Has z ys) (sym same) k))),
  Distinct-append xs ys d.1 e (λ p h k. apart p (inr h) k),
)

-- those of distinct numbers that pass a test
pub Distinct-filter : (f : ℕ → Bool) (xs : List ℕ) → Distinct xs → Distinct (filter f xs)
Distinct-filter f [] d = tt
Distinct-filter f (x ∷ xs) d = go (f x) (Distinct-filter f xs d.1)
  where
    go : (b : Bool) → Distinct (filter f xs) → Distinct (cond b (x ∷ filter f xs) (filter f xs))
    go true k = (Each-filter (λ y. x ≢ y) f xs d.0, k)
    go false k = k

-- one more number at the end
pub Distinct-push : (xs : List ℕ) (p : ℕ) → Distinct xs → AllByRecursion (λ x. x ≢ p) xs → Distinct (xs ++ p ∷ [])
Distinct-push [] p d h = (tt, tt)
Distinct-push (x ∷ xs) p d h = (Each-append (λ y. x ≢ y) xs (p ∷ []) d.0 (h.0, tt), Distinct-push xs p d.1 h.1)

pub Distinct-split : (xs : List ℕ) (p : ℕ) (ys : List ℕ) → Distinct (xs ++ p ∷ ys) → AllByRecursion (λ x. x ≢ p) xs
Distinct-split [] p ys d = tt
Distinct-split (x ∷ xs) p ys d = ((Each-right (λ y. x ≢ y) xs (p ∷ ys) d.0).0, Distinct-split xs p ys d.1)

pub Distinct-range : (n first : ℕ) → Distinct (range_with_len first n)
Distinct-range zero first = tt
Distinct-range (suc n) first = (
  Each-from_Has (λ y. first ≢ y) (range_with_len (first + 1) n) (λ y h same. let r = Has-range n (first + 1) y h in omega (arith, r.0, same)),
  Distinct-range n (first + 1),
)

-- ---- how many distinct numbers there can be

-- the list without its first x
abbrev less : ℕ → List ℕ → List ℕ
less x [] = []
less x (y ∷ ys) = cond (eqb y x) ys (y ∷ less x ys)

length-less : (x : ℕ) (ys : List ℕ) → Has x ys → suc (length (less x ys)) ≡ length ys
length-less x [] h = absurd h
length-less x (y ∷ ys) h = go (eqb_tells y x) h (length-less x ys)
  where
    go : ((eqb y x ≡ true) × (y ≡ x)) ⊎ ((eqb y x ≡ false) × (y ≢ x)) → (y ≡ x) ⊎ Has x ys → (Has x ys → suc (length (less x ys)) ≡ length ys) → suc (length (cond (eqb y x) ys (y ∷ less x ys))) ≡ suc (length ys)
    go (inl e) k ih = rw e.0 refl
    go (inr e) (inl k) ih = absurd (e.1 k)
    go (inr e) (inr k) ih = rw e.0 (ap suc (ih k))

Has-less : (x y : ℕ) (ys : List ℕ) → x ≢ y → Has y ys → Has y (less x ys)
Has-less x y [] n h = h
Has-less x y (z ∷ ys) n h = go (eqb_tells z x) h (Has-less x y ys n)
  where
    go : ((eqb z x ≡ true) × (z ≡ x)) ⊎ ((eqb z x ≡ false) × (z ≢ x)) → (z ≡ y) ⊎ Has y ys → (Has y ys → Has y (less x ys)) → Has y (cond (eqb z x) ys (z ∷ less x ys))
    go (inl e) (inl f) ih = absurd (n (sym e.1 ∙ f))
    go (inl e) (inr h) ih = rw e.0 h
    go (inr e) (inl f) ih = rw e.0 (inl f)
    go (inr e) (inr h) ih = rw e.0 (inr (ih h))

-- distinct numbers that stand in another list are not more than those of the list
pub no_longer : (xs ys : List ℕ) → Distinct xs → AllByRecursion (λ x. Has x ys) xs → length xs ≤ length ys
no_longer [] ys d h = omega arith
no_longer (x ∷ xs) ys d h =
    let ih = no_longer xs (less x ys) d.1 (Each-both xs (λ y n k. Has-less x y ys n k) d.0 h.1) in
    omega (arith, ih, length-less x ys h.0)

-- the pigeonhole law: distinct numbers below n are at most n
pub room : (n : ℕ) (xs : List ℕ) → Distinct xs → AllByRecursion (λ x. x < n) xs → length xs ≤ n
room n xs d h =
    let r = no_longer xs (range_with_len 0 n) d (Each-map xs (λ x l. range-Has n 0 x (omega arith) (omega (arith, l))) h) in
    omega (arith, r, length-range_with_len 0 n)
