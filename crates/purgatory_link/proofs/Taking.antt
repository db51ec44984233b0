-- The bits of the fields so far, and the fields.
use Rattle.std.proofs.Common.{◌≡◌, ℕ, ◌+◌, ◌/◌, ◌%◌, ◌<◌, ◌≤◌, List, [], ◌∷◌, Bool, true, false, refl, sym, ap, ◌∙◌, inl, inr, ◌⊎◌, get_or, arith}
use Rattle.std.specs.Prelude.{◌==◌, min, max, replicate}
use Rattle.std.specs.List.{list_any}
use Rattle.std.proofs.lemmas.Nat.Bits.{bit_at-zero}
use Rattle.std.proofs.lemmas.List.{get_or-replicate, get_or_past, length-replicate}
use Rattle.std.proofs.lemmas.Bool.{cases_lt, cases_Bool, or_cases, or_left, or_right, or_parts, or_from, both_ways, lt-ltb, ltb-true}
use Rattle.purgatory_link.specs.declared.put.Put.{Put}
use Rattle.purgatory_link.specs.Relocs.{meets_one, meets}
use Rattle.purgatory_link.specs.inner.Taken.{is_set, is_taken, is_among, has, AreTaken}
use Rattle.purgatory_link.proofs.Bits.{inside, where_among}

-- a byte that is shared is one of both
meets_at : (at w k : ℕ) (p : Put) → is_among at w k ≡ true → has k p ≡ true → meets_one at w p ≡ true
meets_at at w k p a b =
    let x = where_among at w k a in
    let y = where_among p.at p.wide k b in
    lt-ltb (max at p.at) (min (at + w) (p.at + p.wide)) (omega (arith, x, y))

any_at : (at w k : ℕ) (puts : List Put) → is_among at w k ≡ true → list_any (has k) puts ≡ true → meets at w puts ≡ true
any_at at w k [] a h = h
any_at at w k (p ∷ ps) a h = by (or_cases (has k p) (list_any (has k) ps) h) (any_at at w k ps a)
  where
    by : (has k p ≡ true) ⊎ (list_any (has k) ps ≡ true) → (list_any (has k) ps ≡ true → meets at w ps ≡ true) → meets at w (p ∷ ps) ≡ true
    by (inl b) ih = or_left (meets_one at w p) (meets at w ps) (meets_at at w k p a b)
    by (inr b) ih = or_right (meets_one at w p) (meets at w ps) (ih b)

-- where fields meet, the later start is one of both
meets_none : (at w : ℕ) (p : Put) → ((k : ℕ) → is_among at w k ≡ true → has k p ≡ false) → meets_one at w p ≡ false
meets_none at w p none = by (cases_Bool (meets_one at w p))
  where
    by : (meets_one at w p ≡ true) ⊎ (meets_one at w p ≡ false) → meets_one at w p ≡ false
    by (inr b) = b
    by (inl b) =
        let l = ltb-true (max at p.at) (min (at + w) (p.at + p.wide)) b in
        let k = max at p.at in
        absurd (both_ways (has k p) (none k (inside at w k (omega (arith, l)) (omega (arith, l)))) (inside p.at p.wide k (omega (arith, l)) (omega (arith, l))))

none_at : (at w : ℕ) (puts : List Put) → ((k : ℕ) → is_among at w k ≡ true → list_any (has k) puts ≡ false) → meets at w puts ≡ false
none_at at w [] none = refl
none_at at w (p ∷ ps) none =
    or_from (meets_one at w p) (meets at w ps) (meets_none at w p (λ k a. (parts k a).0)) (none_at at w ps (λ k a. (parts k a).1))
  where
    parts : (k : ℕ) → is_among at w k ≡ true → (has k p ≡ false) × (list_any (has k) ps ≡ false)
    parts k a = or_parts (has k p) (list_any (has k) ps) (none k a)

-- the test of the bits is that of the fields
pub meets_fields : (at w : ℕ) (puts : List Put) (words : List ℕ) (r : Bool) → AreTaken puts words
    → (r ≡ true → (k : ℕ) × (is_among at w k ≡ true) × (is_taken words k ≡ true))
    → (r ≡ false → (k : ℕ) → is_among at w k ≡ true → is_taken words k ≡ false)
    → r ≡ meets at w puts
meets_fields at w puts words true are some none = let s = some refl in sym (any_at at w s.0 puts s.1 (sym (are.same s.0) ∙ s.2))
meets_fields at w puts words false are some none = sym (none_at at w puts (λ k a. sym (are.same k) ∙ none refl k a))

-- zeros are the row of no field
zero_at : (n i : ℕ) → get_or {A = ℕ} (replicate n 0) i 0 ≡ 0
zero_at n i = by (cases_lt i n)
  where
    by : (i < n) ⊎ (n ≤ i) → get_or {A = ℕ} (replicate n 0) i 0 ≡ 0
    by (inl l) = get_or-replicate n i 0 0 l
    by (inr l) = get_or_past (replicate n 0) i 0 (omega (arith, l, length-replicate {A = ℕ} n 0))

pub none_taken : (n : ℕ) → AreTaken [] (replicate n 0)
none_taken n = record { same = λ k. ap (λ word. is_set word (k % 64)) (zero_at n (k / 64)) ∙ ap (λ b. b == 1) (bit_at-zero (k % 64)) }
