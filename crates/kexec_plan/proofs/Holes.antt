-- The value of a search is the hole.
use Rattle.std.proofs.Common.{◌≡◌, ℕ, zero, suc, ◌+◌, ◌-◌, ◌/◌, ◌%◌, ◌<◌, ◌≤◌, Bool, true, false, cond, Option, Some, None, refl, sym, ap, ◌∙◌, inl, inr, arith}
use Rattle.std.specs.Prelude.{nat_le, not, ◌&&◌, ◌==◌}
use Rattle.std.specs.List.{list_all, range_with_len}
use Rattle.std.proofs.lemmas.Bool.Decides.{nat_tests}
use Rattle.std.proofs.lemmas.Bool.{cases_eq}
use Rattle.std.proofs.lemmas.Option.{none-some}
use Rattle.kx_laws.proofs.Booleans.{and_parts, true_false}
use Rattle.hole_search.specs.declared.search.End.{End}
use Rattle.hole_search.specs.declared.search.End.TheVariants.{Least, Greatest}
use Rattle.hole_search.specs.inner.Holes.{Fits, IsHole}
use Rattle.kexec_plan.specs.Parts.{part_size}
use Rattle.kexec_plan.specs.declared.places.PlaceRule.{PlaceRule}
use Rattle.kexec_plan.specs.Holes.{is_free, are_free, fits, greatest, least, hole_from, hole}
use Rattle.kexec_plan.specs.inner.Holes.{IsHoleBy}

-- ---- what a search that went through says
least_is : (f : ℕ → Bool) (n p a : ℕ) → least f p n ≡ Some a → (f a ≡ true) × ((x : ℕ) → p ≤ x → f x ≡ true → a ≤ x)
unfolding least
least_is f zero p a e = absurd (none-some a e)
least_is f (suc n) p a e = go (f p) refl (least_is f n (suc p) a) e
  where
    go : (c : Bool) → f p ≡ c → (least f (suc p) n ≡ Some a → (f a ≡ true) × ((x : ℕ) → suc p ≤ x → f x ≡ true → a ≤ x)) → cond c (Some p) (least f (suc p) n) ≡ Some a → (f a ≡ true) × ((x : ℕ) → p ≤ x → f x ≡ true → a ≤ x)
    go true c ih e = let same : p ≡ a = cc in (ap f (sym same) ∙ c, λ x l t. omega (arith, same, l))
    go false c ih e =
        let r = ih e in (
          r.0,
          λ x l t. elim (cases_eq p x) [
            | inl same ↦ absurd (true_false (sym t ∙ ap f (sym same) ∙ c))
            | inr other ↦ r.1 x (omega (arith, l, other)) t
          ],
        )

least_none : (f : ℕ → Bool) (n p x : ℕ) → least f p n ≡ None → p ≤ x → x < p + n → f x ≡ true → ⊥
unfolding least
least_none f zero p x e a b t = omega (arith, a, b)
least_none f (suc n) p x e a b t = go (f p) refl e (λ k l. least_none f n (suc p) x k l (omega (arith, b)) t)
  where
    go : (c : Bool) → f p ≡ c → cond c (Some p) (least f (suc p) n) ≡ None → (least f (suc p) n ≡ None → suc p ≤ x → ⊥) → ⊥
    go true c e ih = none-some p (sym e)
    go false c e ih = elim (cases_eq p x) [
      | inl same ↦ true_false (sym t ∙ ap f (sym same) ∙ c)
      | inr other ↦ ih e (omega (arith, a, other))
    ]

greatest_is : (f : ℕ → Bool) (n a : ℕ) → greatest f n ≡ Some a → (f a ≡ true) × ((x : ℕ) → x < n → f x ≡ true → x ≤ a)
unfolding greatest
greatest_is f zero a e = absurd (none-some a e)
greatest_is f (suc n) a e = go (f n) refl (greatest_is f n a) e
  where
    go : (c : Bool) → f n ≡ c → (greatest f n ≡ Some a → (f a ≡ true) × ((x : ℕ) → x < n → f x ≡ true → x ≤ a)) → cond c (Some n) (greatest f n) ≡ Some a → (f a ≡ true) × ((x : ℕ) → x < suc n → f x ≡ true → x ≤ a)
    go true c ih e = let same : n ≡ a = cc in (ap f (sym same) ∙ c, λ x l t. omega (arith, same, l))
    go false c ih e =
        let r = ih e in (
          r.0,
          λ x l t. elim (cases_eq n x) [
            | inl same ↦ absurd (true_false (sym t ∙ ap f (sym same) ∙ c))
            | inr other ↦ r.1 x (omega (arith, l, other)) t
          ],
        )

greatest_none : (f : ℕ → Bool) (n x : ℕ) → greatest f n ≡ None → x < n → f x ≡ true → ⊥
unfolding greatest
greatest_none f zero x e l t = omega (arith, l)
greatest_none f (suc n) x e l t = go (f n) refl e (λ k b. greatest_none f n x k b t)
  where
    go : (c : Bool) → f n ≡ c → cond c (Some n) (greatest f n) ≡ None → (greatest f n ≡ None → x < n → ⊥) → ⊥
    go true c e ih = none-some n (sym e)
    go false c e ih = elim (cases_eq n x) [
      | inl same ↦ true_false (sym t ∙ ap f (sym same) ∙ c)
      | inr other ↦ ih e (omega (arith, l, other))
    ]

-- ---- what a test of a range says of each number
all_at : (f : ℕ → Bool) (n p q : ℕ) → list_all f (range_with_len p n) ≡ true → p ≤ q → q < p + n → f q ≡ true
all_at f zero p q h a b = absurd (omega (arith, a, b))
all_at f (suc n) p q h a b =
    let both = and_parts (f p) (list_all f (range_with_len (p + 1) n)) h in
    elim (cases_eq p q) [
      | inl e ↦ ap f (sym e) ∙ both.0
      | inr e ↦ all_at f n (p + 1) q both.1 (omega (arith, a, e)) (omega (arith, b))
    ]

both_true : (a b : Bool) → a ≡ true → b ≡ true → (a && b) ≡ true
both_true true true h k = refl
both_true true false h k = k
both_true false b h k = h

all_from : (f : ℕ → Bool) (n p : ℕ) → ((q : ℕ) → p ≤ q → q < p + n → f q ≡ true) → list_all f (range_with_len p n) ≡ true
all_from f zero p h = refl
all_from f (suc n) p h =
    both_true (f p) (list_all f (range_with_len (p + 1) n)) (h p (omega arith) (omega arith))
    (all_from f n (p + 1) (λ q a b. h q (omega (arith, a)) (omega (arith, b))))

not_of : (b : Bool) → not b ≡ true → b ≡ false
not_of false h = refl
not_of true h = sym h

of_not : (b : Bool) → b ≡ false → not b ≡ true
of_not false h = refl
of_not true h = sym h

-- ---- the test of an address
Fits-from_fits : (ram taken : ℕ → Bool) (r : PlaceRule) (a : ℕ) → fits ram taken r a ≡ true → Fits ram taken (record { size = part_size r.length; align = r.align; min = r.min; max = r.most }) a
unfolding fits
Fits-from_fits ram taken r a h =
    let p = and_parts (a % r.align == 0) _ h in
    let q = and_parts (nat_le r.min a) _ p.1 in
    let t = and_parts (nat_le (a + part_size r.length - 1) r.most) (are_free ram taken a (part_size r.length)) q.1 in
    let free : (x : ℕ) → a / 4096 ≤ x → x ≤ (a + part_size r.length - 1) / 4096 → is_free ram taken x ≡ true =
    λ x from to. all_at (is_free ram taken) ((a + part_size r.length - 1) / 4096 + 1 - a / 4096) (a / 4096) x t.1 from (omega (arith, from, to)) in
    record {
      aligned = grind (arith, nat_tests, p.0);
      above = grind (arith, nat_tests, q.0);
      below = grind (arith, nat_tests, t.0);
      in_ram = λ x from to. (and_parts (ram x) (not (taken x)) (free x from to)).0;
      not_taken = λ x from to. not_of (taken x) (and_parts (ram x) (not (taken x)) (free x from to)).1;
    }

fits-from_Fits : (ram taken : ℕ → Bool) (r : PlaceRule) (a : ℕ) → Fits ram taken (record { size = part_size r.length; align = r.align; min = r.min; max = r.most }) a → fits ram taken r a ≡ true
unfolding fits
fits-from_Fits ram taken r a h =
    both_true (a % r.align == 0) _ (let e = h.aligned in grind (arith, nat_tests)) (
    both_true (nat_le r.min a) _ (let e = h.above in grind (arith, nat_tests)) (
    both_true (nat_le (a + part_size r.length - 1) r.most) (are_free ram taken a (part_size r.length)) (let e = h.below in grind (arith, nat_tests)) (
    all_from (is_free ram taken) ((a + part_size r.length - 1) / 4096 + 1 - a / 4096) (a / 4096) (λ x from to.
    both_true (ram x) (not (taken x)) (h.in_ram x from (omega (arith, from, to))) (of_not (taken x) (h.not_taken x from (omega (arith, from, to))))))))

some_size : (n : ℕ) → 0 < part_size n
some_size n = omega arith

-- an address that fits is one that the search comes to
within : (ram taken : ℕ → Bool) (r : PlaceRule) (a : ℕ) → Fits ram taken (record { size = part_size r.length; align = r.align; min = r.min; max = r.most }) a → a < r.most + 1
within ram taken r a h =
    let below = h.below in
    let some = some_size r.length in
    omega (arith, below, some)

-- ---- the value of the search is the hole, and the one hole
is_hole : (end : End) (ram taken : ℕ → Bool) (r : PlaceRule) (found : Option ℕ) → hole_from end (fits ram taken r) (r.most + 1) ≡ found → IsHole end ram taken (record { size = part_size r.length; align = r.align; min = r.min; max = r.most }) found
is_hole Least ram taken r None e = λ x h. least_none (fits ram taken r) (r.most + 1) 0 x e (omega arith) (let l = within ram taken r x h in omega (arith, l)) (fits-from_Fits ram taken r x h)
is_hole Greatest ram taken r None e = λ x h. greatest_none (fits ram taken r) (r.most + 1) x e (within ram taken r x h) (fits-from_Fits ram taken r x h)
is_hole Least ram taken r (Some a) e =
    let l = least_is (fits ram taken r) (r.most + 1) 0 a e in
    (Fits-from_fits ram taken r a l.0, λ x h. l.1 x (omega arith) (fits-from_Fits ram taken r x h))
is_hole Greatest ram taken r (Some a) e =
    let g = greatest_is (fits ram taken r) (r.most + 1) a e in
    (Fits-from_fits ram taken r a g.0, λ x h. g.1 x (within ram taken r x h) (fits-from_Fits ram taken r x h))

pub found_is_hole : (ram taken : ℕ → Bool) (r : PlaceRule) → IsHoleBy ram taken r (hole ram taken r)
unfolding hole
found_is_hole ram taken r = is_hole r.end ram taken r (hole_from r.end (fits ram taken r) (r.most + 1)) refl

hole_unique : (end : End) (ram taken : ℕ → Bool) (r : PlaceRule) (x y : Option ℕ) → IsHole end ram taken (record { size = part_size r.length; align = r.align; min = r.min; max = r.most }) x → IsHole end ram taken (record { size = part_size r.length; align = r.align; min = r.min; max = r.most }) y → x ≡ y
hole_unique end ram taken r None None h k = refl
hole_unique end ram taken r None (Some b) h k = absurd (h b k.0)
hole_unique end ram taken r (Some a) None h k = absurd (k a h.0)
hole_unique Least ram taken r (Some a) (Some b) h k = let l = h.1 b k.0 in let g = k.1 a h.0 in ap Some (omega (arith, l, g))
hole_unique Greatest ram taken r (Some a) (Some b) h k = let l = h.1 b k.0 in let g = k.1 a h.0 in ap Some (omega (arith, l, g))

pub hole_is : (ram taken : ℕ → Bool) (r : PlaceRule) (found : Option ℕ) → IsHole r.end ram taken (record { size = part_size r.length; align = r.align; min = r.min; max = r.most }) found → hole ram taken r ≡ found
hole_is ram taken r found h = hole_unique r.end ram taken r (hole ram taken r) found (found_is_hole ram taken r) h
