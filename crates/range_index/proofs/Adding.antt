-- A range that meets no other is put in its place.
use Rattle.std.proofs.Common.{◌≡◌, ℕ, ◌<◌, ◌≤◌, List, [], ◌∷◌, Bool, true, false, refl, sym, ◌∙◌, arith, inl, inr}
use Rattle.std.specs.Prelude.{◌⊎◌, ◌||◌, min, max}
use Rattle.std.specs.List.{list_any}
use Rattle.std.specs.BTreeMap.{insert_entry}
use Rattle.std.specs.Ordering.{nat_cmp, match_ordering}
use Rattle.std.specs.declared.cmp.Ordering.{Ordering}
use Rattle.std.specs.declared.cmp.Ordering.TheVariants.{Less, Equal, Greater}
use Rattle.std.specs.FinMap.{nat_cmp-IsAntisymmetric}
use Rattle.std.proofs.lemmas.Bool.{cases_lt, or_parts, lt-ltb, both_ways}
use Rattle.range_index.specs.inner.Ranges.{Range, ranges_meet, meets_any, AreApart, AreWith}
use Rattle.range_index.proofs.Finding.{less_is}

-- ranges that do not meet: one lies before the other
away : (x r : Range) → x.0 < x.1 → r.0 < r.1 → ranges_meet x r ≡ false → (x.1 ≤ r.0) ⊎ (r.1 ≤ x.0)
away x r some has free = go (cases_lt (max x.0 r.0) (min x.1 r.1))
  where
    go : (max x.0 r.0 < min x.1 r.1) ⊎ (min x.1 r.1 ≤ max x.0 r.0) → (x.1 ≤ r.0) ⊎ (r.1 ≤ x.0)
    go (inl l) = absurd (both_ways (ranges_meet x r) free (lt-ltb (max x.0 r.0) (min x.1 r.1) l))
    go (inr l) = by (cases_lt r.0 x.1)
      where
        by : (r.0 < x.1) ⊎ (x.1 ≤ r.0) → (x.1 ≤ r.0) ⊎ (r.1 ≤ x.0)
        by (inr m) = inl m
        by (inl m) = inr (omega (arith, l, m, some, has))

-- what the order of two numbers says
greater : (a b : ℕ) → nat_cmp a b ≡ Greater → b ≤ a
greater a b e = go (cases_lt a b)
  where
    go : (a < b) ⊎ (b ≤ a) → b ≤ a
    go (inl l) = absurd (differ (sym (less_is a b l) ∙ e))
      where
        differ : ◌≡◌ {A = Ordering} Less Greater → ⊥
        differ h = cc
    go (inr l) = l

less : (a b : ℕ) → nat_cmp a b ≡ Less → a ≤ b
less a b e = grind arith

pub put_apart : (b : ℕ) (x : Range) (rs : List Range) → AreApart b rs → b ≤ x.0 → x.0 < x.1 → meets_any x rs ≡ false → AreApart b (insert_entry nat_cmp rs x.0 x.1)
put_apart b x [] apart low some free = (low, some, tt)
put_apart b x (r ∷ rs) apart low some free =
    let p = or_parts (ranges_meet x r) (meets_any x rs) free in
    go (nat_cmp x.0 r.0) refl (away x r some apart.1 p.0) (λ l. put_apart r.1 x rs apart.2 l some p.1)
  where
    go : (o : Ordering) → nat_cmp x.0 r.0 ≡ o → (x.1 ≤ r.0) ⊎ (r.1 ≤ x.0) → (r.1 ≤ x.0 → AreApart r.1 (insert_entry nat_cmp rs x.0 x.1))
        → AreApart b (match_ordering o ((x.0, x.1) ∷ r ∷ rs) ((r.0, x.1) ∷ rs) (r ∷ insert_entry nat_cmp rs x.0 x.1))
    go Less e (inl l) ih = (low, some, (l, apart.1, apart.2))
    go Less e (inr l) ih = let m = less x.0 r.0 e in absurd (omega (arith, m, l, apart.1))
    go Equal e (inl l) ih = let m = nat_cmp-IsAntisymmetric x.0 r.0 e in absurd (omega (arith, m, l, some))
    go Equal e (inr l) ih = let m = nat_cmp-IsAntisymmetric x.0 r.0 e in absurd (omega (arith, m, l, apart.1))
    go Greater e (inl l) ih = let m = greater x.0 r.0 e in absurd (omega (arith, m, l, some))
    go Greater e (inr l) ih = (apart.0, apart.1, ih l)

pub put_with : (b : ℕ) (x : Range) (rs : List Range) → AreApart b rs → x.0 < x.1 → meets_any x rs ≡ false → AreWith rs x (insert_entry nat_cmp rs x.0 x.1)
put_with b x [] apart some free test = last (test x)
  where
    last : (c : Bool) → (c || false) ≡ c
    last true = refl
    last false = refl
put_with b x (r ∷ rs) apart some free test =
    let p = or_parts (ranges_meet x r) (meets_any x rs) free in
    go (nat_cmp x.0 r.0) refl (away x r some apart.1 p.0) (put_with r.1 x rs apart.2 some p.1 test)
  where
    swapped : (a c d : Bool) → (a || (c || d)) ≡ ((c || d) || a)
    swapped true true d = refl
    swapped true false true = refl
    swapped true false false = refl
    swapped false true d = refl
    swapped false false true = refl
    swapped false false false = refl

    shifted : (c d a e : Bool) → e ≡ (d || a) → (c || e) ≡ ((c || d) || a)
    shifted true d a e h = refl
    shifted false d a e h = h

    go : (o : Ordering) → nat_cmp x.0 r.0 ≡ o → (x.1 ≤ r.0) ⊎ (r.1 ≤ x.0) → list_any test (insert_entry nat_cmp rs x.0 x.1) ≡ (list_any test rs || test x)
        → list_any test (match_ordering o ((x.0, x.1) ∷ r ∷ rs) ((r.0, x.1) ∷ rs) (r ∷ insert_entry nat_cmp rs x.0 x.1)) ≡ ((test r || list_any test rs) || test x)
    go Less e side ih = swapped (test x) (test r) (list_any test rs)
    go Equal e (inl l) ih = let m = nat_cmp-IsAntisymmetric x.0 r.0 e in absurd (omega (arith, m, l, some))
    go Equal e (inr l) ih = let m = nat_cmp-IsAntisymmetric x.0 r.0 e in absurd (omega (arith, m, l, apart.1))
    go Greater e side ih = shifted (test r) (list_any test rs) (test x) (list_any test (insert_entry nat_cmp rs x.0 x.1)) ih
