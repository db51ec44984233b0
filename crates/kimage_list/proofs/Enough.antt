-- Below the need no page runs out, and no page past it is drawn.
use Rattle.std.proofs.Common.{◌≡◌, ℕ, zero, suc, ◌+◌, ◌≤◌, List, [], ◌∷◌, ◌++◌, length, Option, Some, None, refl, sym, ap, ◌∙◌, subst, ⊎_elim, inl, inr, arith, take, length-append, Bool, true, false, cond}
use Rattle.std.specs.List.{AllByRecursion}
use Rattle.std.specs.Prelude.{◌≢◌, ◌⊎◌, eqb}
use Rattle.std.proofs.lemmas.Bool.{eqb-false, cases_lt}
use Rattle.std.proofs.lemmas.Bool.Decides.{eqb_tells}
use Rattle.kimage_list.proofs.Counting.{counted_fit, Full, Waits, taken_none, full_on}
use Rattle.kimage_list.proofs.Parts.{served-append}
use Rattle.kimage_list.proofs.Takes.{sources-append, wishes_among, others}
use Rattle.kimage_list.specs.inner.Counted.{Counts, Allowed}
use Rattle.kimage_list.specs.inner.Laws.{AlwaysTakes, OneMore}
use Rattle.kimage_list.specs.inner.Drafts.{one, uses, Draft}
use Rattle.kimage_list.specs.Load.{Loading, take_page, give_page, serve, begun}
use Rattle.kimage_list.specs.inner.Load.{pages_of}
use Rattle.kx_pages.specs.Lists.{Has, sources, count}
use Rattle.kx_pages.proofs.Lists.{Each-map, Each-append, length-destinations}
use Rattle.kx_pages.proofs.Counting.{count-append}

each_at : (P : ℕ → Type 0) (xs : List ℕ) (x : ℕ) → AllByRecursion P xs → 1 ≤ count x xs → P x
each_at P [] x h c = absurd (omega (arith, c))
each_at P (y ∷ xs) x h c = go (eqb_tells y x) (each_at P xs x h.1)
  where
    go : ((eqb y x ≡ true) × (y ≡ x)) ⊎ ((eqb y x ≡ false) × (y ≢ x)) → (1 ≤ count x xs → P x) → P x
    go (inl u) ih = subst P u.1 h.0
    go (inr u) ih =
        let m : count x (y ∷ xs) ≡ 0 + count x xs = ap (λ b. cond b 1 0 + count x xs) u.0 in
        ih (omega (arith, m, c))

pub has_of_count : (x : ℕ) (xs : List ℕ) → 1 ≤ count x xs → Has x xs
has_of_count x [] c = absurd (omega (arith, c))
has_of_count x (y ∷ xs) c = go (eqb_tells y x) (has_of_count x xs)
  where
    go : ((eqb y x ≡ true) × (y ≡ x)) ⊎ ((eqb y x ≡ false) × (y ≢ x)) → (1 ≤ count x xs → Has x xs) → Has x (y ∷ xs)
    go (inl u) ih = inl u.1
    go (inr u) ih =
        let m : count x (y ∷ xs) ≡ 0 + count x xs = ap (λ b. cond b 1 0 + count x xs) u.0 in
        inr (ih (omega (arith, m, c)))

-- lists without a common number
disjoint_once : (xs ys : List ℕ) → ((x : ℕ) → count x xs ≤ 1) → ((x : ℕ) → count x ys ≤ 1) → AllByRecursion (λ q. Has q ys → ⊥) xs → (x : ℕ) → count x (xs ++ ys) ≤ 1
disjoint_once xs ys c d h x = ⊎_elim
    (λ z. omega (arith, z, count-append x xs ys, d x))
    (λ z. let none : count x ys ≡ 0 = ⊎_elim (λ k. omega (arith, k)) (λ k. absurd (each_at (λ q. Has q ys → ⊥) xs x h (omega (arith, z)) (has_of_count x ys (omega (arith, k))))) (cases_lt (count x ys) 1) in
    omega (arith, none, count-append x xs ys, c x))
    (cases_lt (count x xs) 1)

pub once_more : (p : ℕ) (xs : List ℕ) → count p xs ≡ 0 → ((x : ℕ) → count x xs ≤ 1) → (x : ℕ) → count x (p ∷ xs) ≤ 1
once_more p xs z c x = ⊎_elim
    (λ u. let m : count x (p ∷ xs) ≡ 1 + count x xs = ap (λ b. cond b 1 0 + count x xs) u.0 in let n : count x xs ≡ 0 = ap (λ y. count y xs) (sym u.1) ∙ z in omega (arith, m, n))
    (λ u. let m : count x (p ∷ xs) ≡ 0 + count x xs = ap (λ b. cond b 1 0 + count x xs) u.0 in omega (arith, m, c x))
    (eqb_tells p x)

module _ (D : ℕ → Bool) (pool spent all : List ℕ) (n need : ℕ) (l : Loading) (c : (x : ℕ) → count x pool ≤ 1) (f : Full D pool spent n l)
    (wanted : (p : ℕ) → D p ≡ true → Has p all) (inside : AllByRecursion (λ p. Has p all) spent) (spent_once : (x : ℕ) → count x spent ≤ 1) (enough : need ≤ length pool) where
  once : (x : ℕ) → count x (l.left ++ l.filed) ≤ 1
  once x = omega (arith, count-append x l.left l.filed, f.sound.conserved x, c x)

  sizes : length (l.left ++ l.filed) + n + length spent ≡ length pool
  sizes = omega (arith, length-append l.left l.filed, f.sizes, f.sound.many, ap length f.sound.order, length-destinations l.pairs)

  runs_out : (r : Option ℕ) → Allowed r all spent n need → AllByRecursion (Waits D r l.pairs) (l.left ++ l.filed) → ⊥
  runs_out None a w =
      let xs = l.left ++ l.filed in
      let apart : AllByRecursion (λ q. Has q spent → ⊥) (l.left ++ l.filed) = Each-map xs (λ q v h. v.0.1 (subst (Has q) (sym f.sound.order) h)) w in
      let few = counted_fit (xs ++ spent) all (disjoint_once xs spent once spent_once apart) (Each-append (λ q. Has q all) xs spent (Each-map xs (λ q v. wanted q v.0.0) w) inside) in
      omega (arith, few, length-append xs spent, sizes, a, enough)
  runs_out (Some p) a w =
      let xs = l.left ++ l.filed in
      let apart : AllByRecursion (λ q. Has q (p ∷ spent) → ⊥) (l.left ++ l.filed) =
      Each-map xs (λ q v h. ⊎_elim (λ g. eqb-false p q v.1 g) (λ g. v.0.1 (subst (Has q) (sym f.sound.order) g)) h) w in
      let few = counted_fit (xs ++ p ∷ spent) all (disjoint_once xs (p ∷ spent) once (once_more p spent a.1 spent_once) apart)
      (Each-append (λ q. Has q all) xs (p ∷ spent) (Each-map xs (λ q v. wanted q v.0.0) w) (a.0, inside)) in
      omega (arith, few, length-append xs (p ∷ spent), sizes, a.2, enough)

  -- taking never fails
  pub taken_some : (r : Option ℕ) → Allowed r all spent n need → (t : ℕ × Loading) × (take_page D r l ≡ Some t)
  taken_some r a = go (take_page D r l) refl
    where
      go : (o : Option (ℕ × Loading)) → take_page D r l ≡ o → (t : ℕ × Loading) × (take_page D r l ≡ Some t)
      go (Some t) e = (t, e)
      go None e = absurd (runs_out r a (taken_none D r l f.files e))

count-front : (x n : ℕ) (xs ys : List ℕ) → length xs ≤ n → count x xs ≤ count x (take n (xs ++ ys))
count-front x n [] ys h = omega arith
count-front x zero (y ∷ xs) ys h = absurd (omega (arith, h))
count-front x (suc n) (y ∷ xs) ys h = omega (arith, count-front x n xs ys (omega (arith, h)))

-- what is filed or in use are among the first pages of the pool
pub used_first : (D : ℕ → Bool) (pool spent all : List ℕ) (n need : ℕ) (l : Loading) → ((x : ℕ) → count x pool ≤ 1) → Full D pool spent n l
    → ((p : ℕ) → D p ≡ true → Has p all) → AllByRecursion (λ p. Has p all) spent → ((x : ℕ) → count x spent ≤ 1) → n + length all ≤ need → (x : ℕ) → uses x l ≤ count x (take need pool)
used_first D pool spent all n need l c f wanted inside spent_once enough x =
    let front = f.ends.0 in
    let apart : AllByRecursion (λ q. Has q spent → ⊥) l.filed = Each-map l.filed (λ q v h. v.1 (subst (Has q) (sym f.sound.order) h)) f.files in
    let once : (y : ℕ) → count y l.filed ≤ 1 = λ y. omega (arith, f.sound.conserved y, c y) in
    let few = counted_fit (l.filed ++ spent) all (disjoint_once l.filed spent once spent_once apart) (Each-append (λ q. Has q all) l.filed spent (Each-map l.filed (λ q v. wanted q v.0) f.files) inside) in
    let size : length front ≤ need = omega (arith, few, length-append l.filed spent, f.sizes, f.sound.many, ap length f.sound.order, length-destinations l.pairs, ap length f.ends.1, length-append front l.left, enough) in
    omega (arith, count-front x need front l.left size, ap (λ ys. count x (take need ys)) f.ends.1, f.sound.conserved x, ap (count x) f.ends.1, count-append x front l.left)

used-given : (x : ℕ) (r : Option ℕ) (t : ℕ × Loading) → uses x t.1 + one x t.0 ≡ uses x (give_page r t)
used-given x None t = omega (arith, count-append x t.1.spare (t.0 ∷ []))
used-given x (Some d) t = omega (arith, ap (count x) (sources-append t.1.pairs ((d, t.0) ∷ [])), count-append x (sources t.1.pairs) (t.0 ∷ []))

pub full_of : (pool all : List ℕ) (d : Draft) → Counts pool all d → Full d.wanted pool (pages_of d.entries) (length d.loading.spare) d.loading
full_of pool all d k = record {
  sound = record { conserved = k.conserved; homes = k.homes; order = k.order; free = k.free; many = refl };
  files = k.files;
  sizes = k.sizes;
  ends = (k.front, k.ends);
}

pub wished-inside : (r : Option ℕ) (all spent : List ℕ) (n need : ℕ) → Allowed r all spent n need → AllByRecursion (λ p. Has p all) spent → AllByRecursion (λ p. Has p all) (spent ++ wishes_among (r ∷ []))
wished-inside None all spent n need a h = Each-append (λ p. Has p all) spent [] h tt
wished-inside (Some p) all spent n need a h = Each-append (λ p. Has p all) spent (p ∷ []) h (a.0, tt)

pub wished-once : (r : Option ℕ) (all spent : List ℕ) (n need : ℕ) → Allowed r all spent n need → ((x : ℕ) → count x spent ≤ 1) → (x : ℕ) → count x (spent ++ wishes_among (r ∷ [])) ≤ 1
wished-once None all spent n need a c x = omega (arith, c x, count-append x spent [])
wished-once (Some p) all spent n need a c x = omega (arith, once_more p spent a.1 c x, count-append x spent (p ∷ []))

others-fit : (r : Option ℕ) (all spent : List ℕ) (n need : ℕ) → Allowed r all spent n need → n + others (r ∷ []) + length all ≤ need
others-fit None all spent n need a = omega (arith, a)
others-fit (Some p) all spent n need a = omega (arith, a.2)

pub always_takes : AlwaysTakes
always_takes pool all need d r k enough room a =
    let spent = pages_of d.entries in
    let n = length d.loading.spare in
    let f = full_of pool all d k in
    let t = taken_some d.wanted pool spent all n need d.loading k.once f k.wanted k.inside k.spent enough r a in
    let g = full_on d.wanted pool spent n r d.loading t.0 k.once f t.1 in
    let within : (x : ℕ) → uses x (give_page r t.0) ≤ count x (take need pool) =
    used_first d.wanted pool (spent ++ wishes_among (r ∷ [])) all (n + others (r ∷ [])) need (give_page r t.0) k.once g k.wanted (wished-inside r all spent n need a k.inside) (wished-once r all spent n need a k.spent) (others-fit r all spent n need a) in
    (t.0, record { gives = t.1; within = λ x. omega (arith, within x, used-given x r t.0, ap (count x) room) })

pub one_more : OneMore
one_more D rs pool r l t e f = served-append D rs (r ∷ []) (begun pool) l e ∙ rw (f, serve) refl
