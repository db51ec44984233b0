-- A table of marks, page by page.
use Rattle.std.proofs.Common.{◌≡◌, ℕ, ◌+◌, ◌≤◌, List, [], ◌∷◌, ◌++◌, Bool, true, false, cond, refl, sym, ap, ◌∙◌, subst, Some, None, arith, length, replicate, ⊎_elim, inl, inr}
use Rattle.std.specs.Prelude.{◌≢◌, ◌⊎◌, ◌||◌, is_some, eqb, nat_eq, unwrap_or}
use Rattle.std.specs.List.{list_any}
use Rattle.std.specs.Ordering.{nat_cmp, is_eq}
use Rattle.std.specs.Cmp.{nat_cmp_total, eq_by_cmp_equiv}
use Rattle.std.specs.BTreeMap as tree
use Rattle.std.specs.FinMap as finite
use Rattle.std.specs.FinMap.{nat_cmp-IsAntisymmetric, get-from_entries}
use Rattle.std.proofs.lemmas.List.Folds.{list_any-append}
use Rattle.std.proofs.lemmas.Bool.Decides.{eqb_tells}
use Rattle.kx_laws.proofs.Booleans.{is_eq-false, or_true, or_false}
use Rattle.kx_pages.specs.Lists.{count}
use Rattle.kx_pages.specs.inner.Numbers.{IsPage}
use Rattle.kx_pages.proofs.Lists.{Each-append}
use Rattle.kx_pages.proofs.Counting.{Distinct-push, Each-from_no_count}
use Rattle.page_pool.specs.Pages.{usable_among}
use Rattle.page_pool.proofs.Queueing.{queue_fresh}
use Rattle.page_pool.specs.inner.Marks.{marks_of, AreMarks, IsPool}

apart : (k q : ℕ) → k ≢ q → is_eq (nat_cmp k q) ≡ false
apart k q ne = is_eq-false (nat_cmp k q) (λ e. ne (nat_cmp-IsAntisymmetric k q e))

pub count-any : (x : ℕ) (xs : List ℕ) → ((list_any (nat_eq x) xs ≡ true) × (1 ≤ count x xs)) ⊎ ((list_any (nat_eq x) xs ≡ false) × (count x xs ≡ 0))
count-any x [] = inr (refl, refl)
count-any x (y ∷ xs) = go (eqb_tells x y) (eqb_tells y x) (count-any x xs)
  where
    go : ((eqb x y ≡ true) × (x ≡ y)) ⊎ ((eqb x y ≡ false) × (x ≢ y)) → ((eqb y x ≡ true) × (y ≡ x)) ⊎ ((eqb y x ≡ false) × (y ≢ x)) → ((list_any (nat_eq x) xs ≡ true) × (1 ≤ count x xs)) ⊎ ((list_any (nat_eq x) xs ≡ false) × (count x xs ≡ 0))
        → ((list_any (nat_eq x) (y ∷ xs) ≡ true) × (1 ≤ count x (y ∷ xs))) ⊎ ((list_any (nat_eq x) (y ∷ xs) ≡ false) × (count x (y ∷ xs) ≡ 0))
    go (inl u) (inr v) ih = absurd (v.1 (sym u.1))
    go (inr u) (inl v) ih = absurd (u.1 (sym v.1))
    go (inl u) (inl v) ih =
        let m : count x (y ∷ xs) ≡ 1 + count x xs = ap (λ b. cond b 1 0 + count x xs) v.0 in
        inl (ap (λ b. b || list_any (nat_eq x) xs) u.0, omega (arith, m))
    go (inr u) (inr v) ih =
        let m : count x (y ∷ xs) ≡ 0 + count x xs = ap (λ b. cond b 1 0 + count x xs) v.0 in
        ⊎_elim (λ h. inl (ap (λ b. b || list_any (nat_eq x) xs) u.0 ∙ h.0, omega (arith, m, h.1))) (λ h. inr (ap (λ b. b || list_any (nat_eq x) xs) u.0 ∙ h.0, omega (arith, m, h.1))) ih

pub some-fresh : (b : Bool) → is_some (cond b (Some false) None) ≡ b
some-fresh true = refl
some-fresh false = refl

value-fresh : (b : Bool) → unwrap_or (cond b (Some false) None) false ≡ false
value-fresh true = refl
value-fresh false = refl

-- one more page
pub marks_more : (xs ys : List ℕ) (k : ℕ) → IsPage k → (m n : tree.BTreeMap ℕ Bool) (b : Bool) → ys ≡ xs ++ k ∷ [] → AreMarks xs m → b ≡ is_some (tree.get nat_cmp m k) → b ≡ false
    → ((q : ℕ) → tree.get nat_cmp n q ≡ cond (is_eq (nat_cmp k q)) (Some false) (tree.get nat_cmp m q)) → AreMarks ys n
marks_more xs ys k page m n b e h f g u =
    let fresh : list_any (nat_eq k) xs ≡ false = sym (some-fresh (list_any (nat_eq k) xs)) ∙ sym (ap is_some (h.each k)) ∙ sym f ∙ g in
    let none : count k xs ≡ 0 = ⊎_elim (λ t. absurd (clash (list_any (nat_eq k) xs) t.0 fresh)) (λ t. t.1) (count-any k xs) in
    subst (λ zs. AreMarks zs n) (sym e) (record { each = λ q. go q (eqb_tells q k); once = Distinct-push xs k h.once (Each-from_no_count k xs none); low = Each-append IsPage xs (k ∷ []) h.low (page, tt) })
  where
    clash : (b : Bool) → b ≡ true → b ≡ false → ⊥
    clash true p q = cc
    clash false p q = cc

    more : (q : ℕ) → list_any (nat_eq q) (xs ++ k ∷ []) ≡ (list_any (nat_eq q) xs || (nat_eq q k || false))
    more q = list_any-append (nat_eq q) xs (k ∷ [])

    go : (q : ℕ) → ((eqb q k ≡ true) × (q ≡ k)) ⊎ ((eqb q k ≡ false) × (q ≢ k)) → tree.get nat_cmp n q ≡ cond (list_any (nat_eq q) (xs ++ k ∷ [])) (Some false) None
    go q (inl t) =
        let y : is_eq (nat_cmp k q) ≡ true = ap (λ x. is_eq (nat_cmp k x)) t.1 ∙ (eq_by_cmp_equiv nat_cmp_total).refl k in
        u q ∙ ap (λ c. cond c (Some false) (tree.get nat_cmp m q)) y ∙ sym (ap (λ c. cond c (Some false) None) (more q ∙ ap (λ c. list_any (nat_eq q) xs || (c || false)) t.0 ∙ or_true (list_any (nat_eq q) xs)))
    go q (inr t) =
        let y : is_eq (nat_cmp k q) ≡ false = apart k q (λ w. t.1 (sym w)) in
        u q ∙ ap (λ c. cond c (Some false) (tree.get nat_cmp m q)) y ∙ h.each q ∙ sym (ap (λ c. cond c (Some false) None) (more q ∙ ap (λ c. list_any (nat_eq q) xs || (c || false)) t.0 ∙ or_false (list_any (nat_eq q) xs)))

pub marks_none : (m : tree.BTreeMap ℕ Bool) → ((q : ℕ) → tree.get nat_cmp m q ≡ None) → AreMarks [] m
marks_none m h = record { each = h; once = tt; low = tt }

pub mark_is_false : (xs : List ℕ) (m : tree.BTreeMap ℕ Bool) → AreMarks xs m → (q : ℕ) → unwrap_or (finite.get (marks_of m) q) false ≡ false
mark_is_false xs m h q = ap (λ o. unwrap_or o false) (get-from_entries nat_cmp_total m.entries q ∙ h.each q) ∙ value-fresh (list_any (nat_eq q) xs)

-- a pool of these pages, none of which is drawn or usable
pub pool_made : (xs queue : List ℕ) (flags : List Bool) (limit : ℕ) (m : tree.BTreeMap ℕ Bool) → length xs ≤ 262144 → AreMarks xs m → length queue ≡ length xs → flags ≡ replicate (length xs) false → usable_among limit xs [] ≡ []
    → IsPool xs queue flags 0 0 limit m
pool_made xs queue flags limit m few h room unset none = record {
  once = h.once;
  low = h.low;
  few = few;
  queued = queue_fresh xs queue flags limit room unset none;
  have = record { each = λ x c. ap is_some (h.each x) ∙ some-fresh (list_any (nat_eq x) xs) ∙ ⊎_elim (λ t. t.0) (λ t. absurd (omega (arith, t.1, c))) (count-any x xs) };
  filed = record { each = λ x f. absurd (clash _ f (mark_is_false xs m h x)) };
}
  where
    clash : (b : Bool) → b ≡ true → b ≡ false → ⊥
    clash true p q = cc
    clash false p q = cc
