-- Laws of lists: what holds of each element, membership, and how often a number stands in a list.
use Rattle.std.proofs.Common.{◌≡◌, ℕ, zero, suc, ◌+◌, ◌<◌, ◌≤◌, ◌++◌, ◌||◌, List, [], ◌∷◌, length, get_or, take, drop, Bool, true, false, cond, not, Some, None, refl, sym, ap, ◌∙◌, subst, ⊎_elim, inl, inr, arith}
use Rattle.std.specs.Prelude.{◌≢◌, ◌⊎◌, eqb, All}
use Rattle.std.specs.List.{range_with_len, filter, slice_get, position, position_or_len, AllByRecursion}
use Rattle.std.proofs.lemmas.Bool.{or_cases, or_parts, eqb-true, eqb-false, ne_eqb, false≢true, cases_eq}
use Rattle.kx_laws.proofs.Booleans.{or_false, or_shift}
use Rattle.kx_laws.proofs.Options.{some_same}
use Rattle.kx_laws.proofs.Lists.{none_first}
use Rattle.kx_pages.specs.Lists.{Has, has, destinations, sources}

-- ---- what holds of each element

pub Each-map : {X : Type 0} {P Q : X → Type 0} (xs : List X) → ((x : X) → P x → Q x) → AllByRecursion P xs → AllByRecursion Q xs
Each-map [] f h = tt
Each-map (x ∷ xs) f h = (f x h.0, Each-map xs f h.1)

pub Each-both : {X : Type 0} {P Q R : X → Type 0} (xs : List X) → ((x : X) → P x → Q x → R x) → AllByRecursion P xs → AllByRecursion Q xs → AllByRecursion R xs
Each-both [] f h k = tt
Each-both (x ∷ xs) f h k = (f x h.0 k.0, Each-both xs f h.1 k.1)

pub Each-append : {X : Type 0} (P : X → Type 0) (xs ys : List X) → AllByRecursion P xs → AllByRecursion P ys → AllByRecursion P (xs ++ ys)
Each-append P [] ys h k = k
Each-append P (x ∷ xs) ys h k = (h.0, Each-append P xs ys h.1 k)

pub Each-left : {X : Type 0} (P : X → Type 0) (xs ys : List X) → AllByRecursion P (xs ++ ys) → AllByRecursion P xs
Each-left P [] ys h = tt
Each-left P (x ∷ xs) ys h = (h.0, Each-left P xs ys h.1)

pub Each-right : {X : Type 0} (P : X → Type 0) (xs ys : List X) → AllByRecursion P (xs ++ ys) → AllByRecursion P ys
Each-right P [] ys h = h
Each-right P (x ∷ xs) ys h = Each-right P xs ys h.1

pub Each-take : {X : Type 0} (P : X → Type 0) (n : ℕ) (xs : List X) → AllByRecursion P xs → AllByRecursion P (take n xs)
Each-take P zero xs h = tt
Each-take P (suc n) [] h = tt
Each-take P (suc n) (x ∷ xs) h = (h.0, Each-take P n xs h.1)

pub Each-drop : {X : Type 0} (P : X → Type 0) (n : ℕ) (xs : List X) → AllByRecursion P xs → AllByRecursion P (drop n xs)
Each-drop P zero xs h = h
Each-drop P (suc n) [] h = tt
Each-drop P (suc n) (x ∷ xs) h = Each-drop P n xs h.1

pub Each-filter : {X : Type 0} (P : X → Type 0) (f : X → Bool) (xs : List X) → AllByRecursion P xs → AllByRecursion P (filter f xs)
Each-filter P f [] h = tt
Each-filter P f (x ∷ xs) h = more (f x) (Each-filter P f xs h.1)
  where
    more : (b : Bool) → AllByRecursion P (filter f xs) → AllByRecursion P (cond b (x ∷ filter f xs) (filter f xs))
    more true k = (h.0, k)
    more false k = k

pub Each-slice_get : {X : Type 0} (P : X → Type 0) (xs : List X) (i : ℕ) (x : X) → AllByRecursion P xs → slice_get xs i ≡ Some x → P x
Each-slice_get P [] i x h e = cc
Each-slice_get P (y ∷ xs) zero x h e = subst P (some_same y x e) h.0
Each-slice_get P (y ∷ xs) (suc i) x h e = Each-slice_get P xs i x h.1 e

-- where none is the first that passes a test, each fails it
pub Each-from_no_first : {X : Type 0} (p : X → Bool) (xs : List X) → position p xs ≡ None → AllByRecursion (λ x. p x ≡ false) xs
Each-from_no_first p xs none = each_fails p xs (none_first p xs none)
  where
    each_fails : {X : Type 0} (p : X → Bool) (xs : List X) → length xs ≤ position_or_len p xs → AllByRecursion (λ x. p x ≡ false) xs
    each_fails p [] h = tt
    each_fails p (x ∷ xs) h = by (p x) refl h (λ few. each_fails p xs few)
      where
        by : (b : Bool) → p x ≡ b → suc (length xs) ≤ cond (not b) (1 + position_or_len p xs) 0 → (length xs ≤ position_or_len p xs → AllByRecursion (λ x. p x ≡ false) xs) → AllByRecursion (λ x. p x ≡ false) (x ∷ xs)
        by true e few rest = absurd (omega arith)
        by false e few rest = (e, rest (omega (arith, few)))

-- from the words of the standard library
pub Each-from_All : (P : ℕ → Type 0) (xs : List ℕ) → All P xs → AllByRecursion P xs
Each-from_All P [] all = tt
Each-from_All P (x ∷ xs) all = (all 0 x (omega arith), Each-from_All P xs (λ k d inside. all (suc k) d (omega (arith, inside))))

-- what holds of each element holds of one that stands in the list, and the other way round
pub Each-at : (P : ℕ → Type 0) (xs : List ℕ) (p : ℕ) → AllByRecursion P xs → Has p xs → P p
Each-at P [] p h i = absurd i
Each-at P (x ∷ xs) p h (inl e) = subst P e h.0
Each-at P (x ∷ xs) p h (inr i) = Each-at P xs p h.1 i

pub Each-from_Has : (P : ℕ → Type 0) (xs : List ℕ) → ((x : ℕ) → Has x xs → P x) → AllByRecursion P xs
Each-from_Has P [] h = tt
Each-from_Has P (x ∷ xs) h = (h x (inl refl), Each-from_Has P xs (λ y k. h y (inr k)))

-- ---- destinations and sources of pairs

pub Each-from_destinations : (P : ℕ → Type 0) (qs : List (ℕ × ℕ)) → AllByRecursion P (destinations qs) → AllByRecursion (λ q. P q.0) qs
Each-from_destinations P [] h = tt
Each-from_destinations P (q ∷ qs) h = (h.0, Each-from_destinations P qs h.1)

pub Each-destinations : (P : ℕ → Type 0) (qs : List (ℕ × ℕ)) → AllByRecursion (λ q. P q.0) qs → AllByRecursion P (destinations qs)
Each-destinations P [] h = tt
Each-destinations P (q ∷ qs) h = (h.0, Each-destinations P qs h.1)

pub Each-from_sources : (P : ℕ → Type 0) (qs : List (ℕ × ℕ)) → AllByRecursion P (sources qs) → AllByRecursion (λ q. P q.1) qs
Each-from_sources P [] h = tt
Each-from_sources P (q ∷ qs) h = (h.0, Each-from_sources P qs h.1)

pub Each-sources : (P : ℕ → Type 0) (qs : List (ℕ × ℕ)) → AllByRecursion (λ q. P q.1) qs → AllByRecursion P (sources qs)
Each-sources P [] h = tt
Each-sources P (q ∷ qs) h = (h.0, Each-sources P qs h.1)

pub length-destinations : (qs : List (ℕ × ℕ)) → length (destinations qs) ≡ length qs
length-destinations [] = refl
length-destinations (q ∷ qs) = ap suc (length-destinations qs)

pub length-sources : (qs : List (ℕ × ℕ)) → length (sources qs) ≡ length qs
length-sources [] = refl
length-sources (q ∷ qs) = ap suc (length-sources qs)

-- ---- membership and its test

pub Has-from_has : (p : ℕ) (xs : List ℕ) → has p xs ≡ true → Has p xs
Has-from_has p [] h = absurd (false≢true h)
Has-from_has p (x ∷ xs) h = ⊎_elim (λ e. inl (eqb-true x p e)) (λ e. inr (Has-from_has p xs e)) (or_cases (eqb x p) (has p xs) h)

pub has-from_Has : (p : ℕ) (xs : List ℕ) → Has p xs → has p xs ≡ true
has-from_Has p [] h = absurd h
has-from_Has p (x ∷ xs) (inl e) = grind (arith, e)
has-from_Has p (x ∷ xs) (inr h) = let ih = has-from_Has p xs h in grind (arith, ih)

pub Each-from_has_not : (p : ℕ) (xs : List ℕ) → has p xs ≡ false → AllByRecursion (λ x. x ≢ p) xs
Each-from_has_not p [] h = tt
Each-from_has_not p (x ∷ xs) h = let q = or_parts (eqb x p) (has p xs) h in (eqb-false x p q.0, Each-from_has_not p xs q.1)

pub has_not-from_Each : (p : ℕ) (xs : List ℕ) → AllByRecursion (λ x. x ≢ p) xs → has p xs ≡ false
has_not-from_Each p [] h = refl
has_not-from_Each p (x ∷ xs) h = rw (ne_eqb x p h.0) (has_not-from_Each p xs h.1)

pub has-push : (p x : ℕ) (xs : List ℕ) → has p (xs ++ x ∷ []) ≡ (has p xs || eqb x p)
has-push p x [] = or_false (eqb x p)
has-push p x (y ∷ xs) = ap (λ b. eqb y p || b) (has-push p x xs) ∙ sym (or_shift (eqb y p) (has p xs) (eqb x p))

-- what stands at a place stands in the list
pub Has-get_or : (xs : List ℕ) (i : ℕ) → i < length xs → Has (get_or xs i 0) xs
Has-get_or [] i h = absurd (omega (arith, h))
Has-get_or (x ∷ xs) zero h = inl refl
Has-get_or (x ∷ xs) (suc i) h = inr (Has-get_or xs i (omega (arith, h)))

-- membership in two lists together
pub Has-left : (p : ℕ) (xs ys : List ℕ) → Has p xs → Has p (xs ++ ys)
Has-left p [] ys h = absurd h
Has-left p (x ∷ xs) ys (inl e) = inl e
Has-left p (x ∷ xs) ys (inr h) = inr (Has-left p xs ys h)

pub Has-right : (p : ℕ) (xs ys : List ℕ) → Has p ys → Has p (xs ++ ys)
Has-right p [] ys h = h
Has-right p (x ∷ xs) ys h = inr (Has-right p xs ys h)

pub Has-either : (p : ℕ) (xs ys : List ℕ) → Has p (xs ++ ys) → Has p xs ⊎ Has p ys
Has-either p [] ys h = inr h
Has-either p (x ∷ xs) ys (inl e) = inl (inl e)
Has-either p (x ∷ xs) ys (inr h) = ⊎_elim (λ k. inl (inr k)) (λ k. inr k) (Has-either p xs ys h)

-- the numbers of a range
pub Has-range : (n first p : ℕ) → Has p (range_with_len first n) → (first ≤ p) × (p < first + n)
Has-range zero first p h = absurd h
Has-range (suc n) first p (inl e) = (omega (arith, e), omega (arith, e))
Has-range (suc n) first p (inr h) = let r = Has-range n (first + 1) p h in (omega (arith, r.0), omega (arith, r.1))

pub range-Has : (n first p : ℕ) → first ≤ p → p < first + n → Has p (range_with_len first n)
range-Has zero first p a b = absurd (omega (arith, a, b))
range-Has (suc n) first p a b = go (cases_eq first p) (range-Has n (first + 1) p)
  where
    go : (first ≡ p) ⊎ (first ≡ p → ⊥) → (first + 1 ≤ p → p < first + 1 + n → Has p (range_with_len (first + 1) n)) → Has p (range_with_len first (suc n))
    go (inl e) ih = inl e
    go (inr e) ih = inr (ih (omega (arith, a, e)) (omega (arith, b)))
