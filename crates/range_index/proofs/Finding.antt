-- The range that starts last of those that start before a number tells whether a range up to this number meets one.
use Rattle.std.proofs.Common.{◌≡◌, ℕ, ◌<◌, ◌≤◌, List, [], ◌∷◌, Bool, true, false, cond, refl, sym, ap, ◌∙◌, Some, None, Option, arith, inl, inr}
use Rattle.std.specs.Prelude.{◌⊎◌, ◌||◌, IsSome, nat_lt, min, max}
use Rattle.std.specs.Map.{lookup}
use Rattle.std.specs.BTreeMap.{is_at}
use Rattle.std.specs.Ordering.{nat_cmp, is_eq, is_lt}
use Rattle.std.specs.declared.cmp.Ordering.TheVariants.{Less}
use Rattle.std.specs.Cmp.{nat_cmp_total, eq_by_cmp_equiv}
use Rattle.std.specs.FinMap.{nat_cmp-IsAntisymmetric}
use Rattle.std.proofs.lemmas.Bool.{cases_lt, cases_eq, lt-ltb, le-ltb, both_ways, cond-true}
use Rattle.kx_laws.proofs.Booleans.{is_eq-false}
use Rattle.range_index.specs.inner.Ranges.{Range, ranges_meet, meets_any, AreApart}

-- the end of the range that starts at q
abbrev end_at : ℕ → List Range → Option ℕ
end_at q rs = lookup (is_at (nat_cmp q)) rs

here : (q : ℕ) → is_eq (nat_cmp q q) ≡ true
here q = (eq_by_cmp_equiv nat_cmp_total).refl q

elsewhere : (q s : ℕ) → (q ≡ s → ⊥) → is_eq (nat_cmp q s) ≡ false
elsewhere q s ne = is_eq-false (nat_cmp q s) (λ e. ne (nat_cmp-IsAntisymmetric q s e))

none_some : (o : Option ℕ) (e : ℕ) → o ≡ None → o ≡ Some e → ⊥
none_some o e p q = cc

same_value : (a b : ℕ) → Some a ≡ Some b → a ≡ b
same_value a b h = cc

some_at : (o : Option ℕ) (e : ℕ) → o ≡ Some e → IsSome o
some_at o e h = rw h refl

end_here : (q : ℕ) (r : Range) (rs : List Range) → q ≡ r.0 → end_at q (r ∷ rs) ≡ Some r.1
end_here q r rs e = ap (λ b. cond b (Some r.1) (end_at q rs)) (ap (λ s. is_eq (nat_cmp q s)) (sym e) ∙ here q)

end_behind : (q : ℕ) (r : Range) (rs : List Range) → (q ≡ r.0 → ⊥) → end_at q (r ∷ rs) ≡ end_at q rs
end_behind q r rs ne = ap (λ b. cond b (Some r.1) (end_at q rs)) (elsewhere q r.0 ne)

-- a range that starts at q starts behind the bound, and has numbers
found : (b q v : ℕ) (rs : List Range) → AreApart b rs → end_at q rs ≡ Some v → (b ≤ q) × (q < v)
found b q v [] apart e = absurd (none_some _ v refl e)
found b q v (r ∷ rs) apart e = go (cases_eq q r.0) (found r.1 q v rs apart.2)
  where
    go : (q ≡ r.0) ⊎ (q ≡ r.0 → ⊥) → (end_at q rs ≡ Some v → (r.1 ≤ q) × (q < v)) → (b ≤ q) × (q < v)
    go (inl s) ih = let i = same_value r.1 v (sym (end_here q r rs s) ∙ e) in (omega (arith, s, apart.0), omega (arith, s, i, apart.1))
    go (inr s) ih = let i = ih (sym (end_behind q r rs s) ∙ e) in (omega (arith, i, apart.0, apart.1), i.1)

-- ranges behind the asked one do not meet it
none_behind : (b : ℕ) (x : Range) (rs : List Range) → AreApart b rs → x.1 ≤ b → meets_any x rs ≡ false
none_behind b x [] apart behind = refl
none_behind b x (r ∷ rs) apart behind =
    let ih = none_behind r.1 x rs apart.2 (omega (arith, behind, apart.0, apart.1)) in
    let no : ranges_meet x r ≡ false = le-ltb (max x.0 r.0) (min x.1 r.1) (omega (arith, behind, apart.0)) in
    rw no ih

-- no range starts before the end of the asked one
pub tells_none : (b : ℕ) (x : Range) (rs : List Range) → AreApart b rs → ((q : ℕ) → q < x.1 → end_at q rs ≡ None) → meets_any x rs ≡ false
tells_none b x [] apart none = refl
tells_none b x (r ∷ rs) apart none = go (cases_lt r.0 x.1)
  where
    go : (r.0 < x.1) ⊎ (x.1 ≤ r.0) → meets_any x (r ∷ rs) ≡ false
    go (inl l) = absurd (none_some _ r.1 (none r.0 l) (end_here r.0 r rs refl))
    go (inr l) = none_behind r.0 x (r ∷ rs) (omega arith, apart.1, apart.2) l

-- the range from k to v starts last of those that start before the end of the asked one
pub tells_last : (b k v : ℕ) (x : Range) (rs : List Range) → AreApart b rs → x.0 < x.1 → k < x.1 → end_at k rs ≡ Some v → ((q : ℕ) → q < x.1 → IsSome (end_at q rs) → q ≤ k) → nat_lt x.0 v ≡ meets_any x rs
tells_last b k v x [] apart some before e last = absurd (none_some _ v refl e)
tells_last b k v x (r ∷ rs) apart some before e last = go (cases_eq k r.0) (tells_last r.1 k v x rs apart.2 some before)
  where
    later : (q w : ℕ) → q < x.1 → end_at q rs ≡ Some w → (r.1 ≤ q) × (q ≤ k)
    later q w l f =
        let i = found r.1 q w rs apart.2 f in
        let n : q ≡ r.0 → ⊥ = λ s. omega (arith, s, i, apart.1) in
        (i.0, last q l (some_at _ w (end_behind q r rs n ∙ f)))

    -- behind the range from k to v none starts before the end
    nothing : k ≡ r.0 → (q : ℕ) → q < x.1 → (o : Option ℕ) → end_at q rs ≡ o → end_at q rs ≡ None
    nothing s q l None f = f
    nothing s q l (Some w) f = let t = later q w l f in absurd (omega (arith, t, s, apart.1))

    this : k ≡ r.0 → v ≡ r.1 → nat_lt x.0 v ≡ ranges_meet x r
    this s i = by (cases_lt x.0 v)
      where
        by : (x.0 < v) ⊎ (v ≤ x.0) → nat_lt x.0 v ≡ ranges_meet x r
        by (inl l) = lt-ltb x.0 v l ∙ sym (lt-ltb (max x.0 r.0) (min x.1 r.1) (omega (arith, l, s, i, some, before, apart.1)))
        by (inr l) = le-ltb x.0 v l ∙ sym (le-ltb (max x.0 r.0) (min x.1 r.1) (omega (arith, l, i)))

    go : (k ≡ r.0) ⊎ (k ≡ r.0 → ⊥) → (end_at k rs ≡ Some v → ((q : ℕ) → q < x.1 → IsSome (end_at q rs) → q ≤ k) → nat_lt x.0 v ≡ meets_any x rs) → nat_lt x.0 v ≡ (ranges_meet x r || meets_any x rs)
    go (inl s) ih =
        let i : v ≡ r.1 = same_value v r.1 (sym e ∙ end_here k r rs s) in
        let none = tells_none r.1 x rs apart.2 (λ q l. nothing s q l (end_at q rs) refl) in
        rw none (this s i ∙ sym (or_no (ranges_meet x r)))
      where
        or_no : (b : Bool) → (b || false) ≡ b
        or_no true = refl
        or_no false = refl
    go (inr s) ih =
        let f : end_at k rs ≡ Some v = sym (end_behind k r rs s) ∙ e in
        let i = found r.1 k v rs apart.2 f in
        let same = ih f (λ q l h. last q l (here_too q l h)) in
        by i (cases_lt x.0 v) same
      where
        here_too : (q : ℕ) → q < x.1 → IsSome (end_at q rs) → IsSome (end_at q (r ∷ rs))
        here_too q l h = at_once (is_eq (nat_cmp q r.0)) h
          where
            at_once : (b : Bool) → IsSome (end_at q rs) → IsSome (cond b (Some r.1) (end_at q rs))
            at_once true h = refl
            at_once false h = h

        by : (r.1 ≤ k) × (k < v) → (x.0 < v) ⊎ (v ≤ x.0) → nat_lt x.0 v ≡ meets_any x rs → nat_lt x.0 v ≡ (ranges_meet x r || meets_any x rs)
        by i (inl l) same = lt-ltb x.0 v l ∙ sym (either (ranges_meet x r) (meets_any x rs) (sym same ∙ lt-ltb x.0 v l))
          where
            either : (a b : Bool) → b ≡ true → (a || b) ≡ true
            either true b h = refl
            either false b h = h
        by i (inr l) same =
            let no : ranges_meet x r ≡ false = le-ltb (max x.0 r.0) (min x.1 r.1) (omega (arith, l, i)) in
            same ∙ sym (ap (λ b. b || meets_any x rs) no)

-- an empty range meets none
pub empty_meets : (x : Range) (rs : List Range) → x.1 ≤ x.0 → meets_any x rs ≡ false
empty_meets x [] h = refl
empty_meets x (r ∷ rs) h =
    let no : ranges_meet x r ≡ false = le-ltb (max x.0 r.0) (min x.1 r.1) (omega (arith, h)) in
    rw no (empty_meets x rs h)

-- comparing numbers
pub less_is : (a b : ℕ) → a < b → nat_cmp a b ≡ Less
less_is a b h = cond-true _ _ _ (lt-ltb a b h)

pub not_less : (a b : ℕ) → is_lt (nat_cmp a b) ≡ false → b ≤ a
not_less a b f = elim (cases_lt a b) [ inl h ↦ absurd (both_ways (is_lt (nat_cmp a b)) f (ap is_lt (less_is a b h))) | inr h ↦ h ]
