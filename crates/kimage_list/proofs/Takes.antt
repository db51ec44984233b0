-- What taking a page does.
use Rattle.std.proofs.Common.{◌≡◌, ℕ, suc, ◌+◌, ◌≤◌, List, [], ◌∷◌, ◌++◌, length, Option, Some, None, refl, sym, ap, ◌∙◌, subst, ⊎_elim, inl, inr, arith, Bool, true, false, cond, append-nil, append_assoc, length-append}
use Rattle.std.specs.List.{AllByRecursion}
use Rattle.std.specs.Prelude.{◌≢◌, ◌⊎◌, eqb, not, ◌||◌}
use Rattle.std.proofs.lemmas.Option.{none-some}
use Rattle.std.proofs.lemmas.Bool.{or_cases, or_parts, eqb-true, eq-eqb, false≢true}
use Rattle.std.proofs.lemmas.Bool.Decides.{eqb_tells}
use Rattle.kimage_list.specs.inner.Drafts.{one, amount, IsHome}
use Rattle.kimage_list.specs.Load.{without, source_of, at_home, is_for, Loading, draw, take_page, give_page, serve}
use Rattle.kx_laws.proofs.Booleans.{not_false, not_true}
use Rattle.kx_pages.specs.Lists.{Has, destinations, sources, count, has}
use Rattle.kx_pages.proofs.Lists.{Each-map, Each-append}
use Rattle.kx_pages.proofs.Counting.{count-append}
use Rattle.kx_laws.proofs.Options.{some_same}

count-without : (x d : ℕ) (xs : List ℕ) → has d xs ≡ true → count x (without d xs) + one x d ≡ count x xs
count-without x d [] h = absurd (false≢true h)
count-without x d (y ∷ xs) h = go (eqb_tells y d) (count-without x d xs)
  where
    go : ((eqb y d ≡ true) × (y ≡ d)) ⊎ ((eqb y d ≡ false) × (y ≢ d)) → (has d xs ≡ true → count x (without d xs) + one x d ≡ count x xs) → count x (without d (y ∷ xs)) + one x d ≡ count x (y ∷ xs)
    go (inl e) ih = rw (e.0, e.1) (omega arith)
    go (inr e) ih = let i = ih (rw e.0 at h) in rw e.0 (omega (arith, i))

pub count-at_home : (x q s : ℕ) (ps : List (ℕ × ℕ)) → source_of q ps ≡ Some s → count x (sources (at_home q ps)) + one x s ≡ count x (sources ps) + one x q
count-at_home x q s [] h = absurd (none-some s h)
count-at_home x q s (p ∷ ps) h = go (eqb_tells p.0 q) (count-at_home x q s ps)
  where
    go : ((eqb p.0 q ≡ true) × (p.0 ≡ q)) ⊎ ((eqb p.0 q ≡ false) × (p.0 ≢ q)) → (source_of q ps ≡ Some s → count x (sources (at_home q ps)) + one x s ≡ count x (sources ps) + one x q) → count x (sources (at_home q (p ∷ ps))) + one x s ≡ count x (sources (p ∷ ps)) + one x q
    go (inl e) ih = let f : p.1 ≡ s = some_same p.1 s (rw e.0 at h) in rw (e.0, f) (omega arith)
    go (inr e) ih = let i = ih (rw e.0 at h) in rw e.0 (omega (arith, i))

home-at_home : (D : ℕ → Bool) (q : ℕ) (ps : List (ℕ × ℕ)) → AllByRecursion (IsHome D) ps → AllByRecursion (IsHome D) (at_home q ps)
home-at_home D q [] h = tt
home-at_home D q (p ∷ ps) h = go (eqb p.0 q) (home-at_home D q ps h.1)
  where
    go : (b : Bool) → AllByRecursion (IsHome D) (at_home q ps) → AllByRecursion (IsHome D) (cond b ((q, q) ∷ ps) (p ∷ at_home q ps))
    go true ih = (inl refl, h.1)
    go false ih = (h.0, ih)

destinations-at_home : (q : ℕ) (ps : List (ℕ × ℕ)) → destinations (at_home q ps) ≡ destinations ps
destinations-at_home q [] = refl
destinations-at_home q (p ∷ ps) = go (eqb_tells p.0 q) (destinations-at_home q ps)
  where
    go : ((eqb p.0 q ≡ true) × (p.0 ≡ q)) ⊎ ((eqb p.0 q ≡ false) × (p.0 ≢ q)) → destinations (at_home q ps) ≡ destinations ps → destinations (at_home q (p ∷ ps)) ≡ destinations (p ∷ ps)
    go (inl e) ih = rw e.0 (ap (λ y. y ∷ destinations ps) (sym e.1))
    go (inr e) ih = rw e.0 (ap (λ ys. p.0 ∷ ys) ih)

-- the source of a pair that is not at home is no destination
source_free : (D : ℕ → Bool) (q s : ℕ) (ps : List (ℕ × ℕ)) → AllByRecursion (IsHome D) ps → source_of q ps ≡ Some s → count q (sources ps) ≡ 0 → D s ≡ false
source_free D q s [] h e c = absurd (none-some s e)
source_free D q s (p ∷ ps) h e c = go (eqb_tells p.0 q) h.0 (source_free D q s ps h.1)
  where
    go : ((eqb p.0 q ≡ true) × (p.0 ≡ q)) ⊎ ((eqb p.0 q ≡ false) × (p.0 ≢ q)) → IsHome D p → (source_of q ps ≡ Some s → count q (sources ps) ≡ 0 → D s ≡ false) → D s ≡ false
    go (inl t) (inl m) ih = let z : p.1 ≡ q = m ∙ t.1 in grind (arith, c, z)
    go (inl t) (inr m) ih = let f : p.1 ≡ s = some_same p.1 s (rw t.0 at e) in rw f at m
    go (inr t) m ih = ih (rw t.0 at e) (omega (arith, c))

-- how many pages are left, filed or in use
abbrev pub size : Loading → ℕ
size l = length l.left + length l.filed + length l.spare + length l.pairs

-- a destination that is not loaded
abbrev pub Awaited : (ℕ → Bool) → List (ℕ × ℕ) → ℕ → Type 0
Awaited D qs p = (D p ≡ true) × (Has p (destinations qs) → ⊥)

pub length-without : (d : ℕ) (xs : List ℕ) → has d xs ≡ true → length (without d xs) + 1 ≡ length xs
length-without d [] h = absurd (false≢true h)
length-without d (y ∷ xs) h = go (eqb_tells y d) (length-without d xs)
  where
    go : ((eqb y d ≡ true) × (y ≡ d)) ⊎ ((eqb y d ≡ false) × (y ≢ d)) → (has d xs ≡ true → length (without d xs) + 1 ≡ length xs) → length (without d (y ∷ xs)) + 1 ≡ length (y ∷ xs)
    go (inl e) ih = rw e.0 (omega arith)
    go (inr e) ih = let i = ih (rw e.0 at h) in rw e.0 (omega (arith, i))

each-without : (P : ℕ → Type 0) (d : ℕ) (xs : List ℕ) → AllByRecursion P xs → AllByRecursion P (without d xs)
each-without P d [] h = tt
each-without P d (x ∷ xs) h = go (eqb x d) (each-without P d xs h.1)
  where
    go : (b : Bool) → AllByRecursion P (without d xs) → AllByRecursion P (cond b xs (x ∷ without d xs))
    go true ih = h.1
    go false ih = (h.0, ih)

length-at_home : (q : ℕ) (ps : List (ℕ × ℕ)) → length (at_home q ps) ≡ length ps
length-at_home q [] = refl
length-at_home q (p ∷ ps) = go (eqb p.0 q) (length-at_home q ps)
  where
    go : (b : Bool) → length (at_home q ps) ≡ length ps → length (cond b ((q, q) ∷ ps) (p ∷ at_home q ps)) ≡ suc (length ps)
    go true ih = refl
    go false ih = ap suc ih

pub no_destination : (q : ℕ) (ps : List (ℕ × ℕ)) → source_of q ps ≡ None → Has q (destinations ps) → ⊥
no_destination q [] e h = h
no_destination q (p ∷ ps) e (inl t) = none-some p.1 (sym (rw (eq-eqb p.0 q t) at e))
no_destination q (p ∷ ps) e (inr h) = go (eqb p.0 q) refl (no_destination q ps)
  where
    go : (b : Bool) → eqb p.0 q ≡ b → (source_of q ps ≡ None → Has q (destinations ps) → ⊥) → ⊥
    go true t ih = none-some p.1 (sym (rw t at e))
    go false t ih = ih (rw t at e) h

-- what taking a page for r from l gave: a page, and the loading after it
pub record Takes (D : ℕ → Bool) (r : Option ℕ) (l : Loading) (o : ℕ × Loading) : Type 0 where
  pub conserves : (x : ℕ) → amount x o.1 + one x o.0 ≡ amount x l
  pub homes : AllByRecursion (IsHome D) o.1.pairs
  pub serves : (is_for r o.0 ≡ true) ⊎ (D o.0 ≡ false)
  pub order : destinations o.1.pairs ≡ destinations l.pairs
  pub spared : o.1.spare ≡ l.spare
  pub sizes : size o.1 + 1 ≡ size l
  pub ends : (front : List ℕ) × (l.left ≡ front ++ o.1.left)
  pub files : AllByRecursion (Awaited D l.pairs) l.filed → AllByRecursion (Awaited D o.1.pairs) o.1.filed

abbrev pub at : List (ℕ × ℕ) → List ℕ → List ℕ → List ℕ → Loading
at pairs spare filed left = record { left = left; filed = filed; pairs = pairs; spare = spare }

draw_took : (D : ℕ → Bool) (r : Option ℕ) (pairs : List (ℕ × ℕ)) (spare filed left : List ℕ) (o : ℕ × Loading)
    → AllByRecursion (IsHome D) pairs → ((x : ℕ) → amount x (at pairs spare filed left) ≤ 1)
    → draw D r pairs spare filed left ≡ Some o → Takes D r (at pairs spare filed left) o
draw_took D r pairs spare filed [] o h c e = absurd (none-some o e)
draw_took D r pairs spare filed (q ∷ left) o h c e = go (is_for r q || not (D q)) refl (draw_took D r pairs spare (q ∷ filed) left o h)
  where
    Later : Type 0
    Later = ((x : ℕ) → amount x (at pairs spare (q ∷ filed) left) ≤ 1) → draw D r pairs spare (q ∷ filed) left ≡ Some o → Takes D r (at pairs spare (q ∷ filed) left) o

    seek : Later → (is_for r q || not (D q)) ≡ false → (m : Option ℕ) → source_of q pairs ≡ m → Takes D r (at pairs spare filed (q ∷ left)) o
    seek ih f None g =
        let t = ih (λ x. omega (arith, c x)) (rw (f, draw, g) at e) in
        let wants = not_false (D q) (or_parts (is_for r q) (not (D q)) f).1 in
        record {
          conserves = λ x. t.conserves x ∙ (omega arith);
          homes = t.homes;
          serves = t.serves;
          order = t.order;
          spared = t.spared;
          sizes = t.sizes ∙ (omega arith);
          ends = (q ∷ t.ends.0, ap (λ ys. q ∷ ys) t.ends.1);
          files = λ w. t.files ((wants, no_destination q pairs g), w);
        }
    seek ih f (Some s) g =
        let i = some_same _ _ (rw (f, draw, g) at e) in
        let z : count q (sources pairs) ≡ 0 = grind (arith, c q) in
        subst (Takes D r (at pairs spare filed (q ∷ left))) i (record {
          conserves = λ x. omega (arith, count-at_home x q s pairs g);
          homes = home-at_home D q pairs h;
          serves = inr (source_free D q s pairs h g z);
          order = destinations-at_home q pairs;
          spared = refl;
          sizes = omega (arith, length-at_home q pairs);
          ends = (q ∷ [], refl);
          files = λ w. Each-map filed (λ p m. (m.0, λ h. m.1 (subst (Has p) (destinations-at_home q pairs) h))) w;
        })

    go : (b : Bool) → (is_for r q || not (D q)) ≡ b → Later → Takes D r (at pairs spare filed (q ∷ left)) o
    go true f ih =
        let i = some_same _ _ (rw (f, draw) at e) in
        subst (Takes D r (at pairs spare filed (q ∷ left))) i (record {
          conserves = λ x. omega arith;
          homes = h;
          serves = ⊎_elim (λ y. inl y) (λ y. inr (not_true (D q) y)) (or_cases (is_for r q) (not (D q)) f);
          order = refl;
          spared = refl;
          sizes = omega arith;
          ends = (q ∷ [], refl);
          files = λ w. w;
        })
    go false f ih = seek ih f (source_of q pairs) refl

pub taken_took : (D : ℕ → Bool) (r : Option ℕ) (l : Loading) (o : ℕ × Loading)
    → AllByRecursion (IsHome D) l.pairs → ((x : ℕ) → amount x l ≤ 1) → take_page D r l ≡ Some o → Takes D r l o
taken_took D None l o h c e = draw_took D None l.pairs l.spare l.filed l.left o h c e
taken_took D (Some d) l o h c e = go (has d l.filed) refl
  where
    go : (b : Bool) → has d l.filed ≡ b → Takes D (Some d) l o
    go true f =
        let i = some_same _ _ (rw (f, take_page) at e) in
        subst (Takes D (Some d) l) i (record {
          conserves = λ x. omega (arith, count-without x d l.filed f);
          homes = h;
          serves = inl (eq-eqb d d refl);
          order = refl;
          spared = refl;
          sizes = omega (arith, length-without d l.filed f);
          ends = ([], refl);
          files = λ w. each-without (Awaited D l.pairs) d l.filed w;
        })
    go false f = draw_took D (Some d) l.pairs l.spare l.filed l.left o h c (rw (f, take_page) at e)

-- what holds of a loading. spent is the destinations requested so far, and n the number of other requests
pub record Sound (D : ℕ → Bool) (pool spent : List ℕ) (n : ℕ) (l : Loading) : Type 0 where
  pub conserved : (x : ℕ) → amount x l ≡ count x pool
  pub homes : AllByRecursion (IsHome D) l.pairs
  pub order : destinations l.pairs ≡ spent
  pub free : AllByRecursion (λ p. D p ≡ false) l.spare
  pub many : length l.spare ≡ n

-- the destinations among these requests
abbrev pub wishes_among : List (Option ℕ) → List ℕ
wishes_among [] = []
wishes_among (None ∷ rs) = wishes_among rs
wishes_among (Some d ∷ rs) = d ∷ wishes_among rs

-- how many are for no destination
abbrev pub others : List (Option ℕ) → ℕ
others [] = 0
others (None ∷ rs) = suc (others rs)
others (Some d ∷ rs) = others rs

pub destinations-append : (ps qs : List (ℕ × ℕ)) → destinations (ps ++ qs) ≡ destinations ps ++ destinations qs
destinations-append [] qs = refl
destinations-append (p ∷ ps) qs = ap (λ ys. p.0 ∷ ys) (destinations-append ps qs)

pub sources-append : (ps qs : List (ℕ × ℕ)) → sources (ps ++ qs) ≡ sources ps ++ sources qs
sources-append [] qs = refl
sources-append (p ∷ ps) qs = ap (λ ys. p.1 ∷ ys) (sources-append ps qs)

pub wished-cons : (r : Option ℕ) (rs : List (Option ℕ)) → wishes_among (r ∷ []) ++ wishes_among rs ≡ wishes_among (r ∷ rs)
wished-cons None rs = refl
wished-cons (Some d) rs = refl

pub others-cons : (n : ℕ) (r : Option ℕ) (rs : List (Option ℕ)) → n + others (r ∷ []) + others rs ≡ n + others (r ∷ rs)
others-cons n None rs = omega arith
others-cons n (Some d) rs = omega arith

pub given_sound : (D : ℕ → Bool) (pool spent : List ℕ) (n : ℕ) (r : Option ℕ) (l : Loading) (t : ℕ × Loading)
    → Sound D pool spent n l → Takes D r l t → Sound D pool (spent ++ wishes_among (r ∷ [])) (n + others (r ∷ [])) (give_page r t)
given_sound D pool spent n None l t s k =
    let free : D t.0 ≡ false = ⊎_elim (λ e. absurd (false≢true e)) (λ e. e) k.serves in
    record {
      conserved = λ x. omega (arith, s.conserved x, k.conserves x, count-append x t.1.spare (t.0 ∷ []));
      homes = k.homes;
      order = k.order ∙ s.order ∙ sym (append-nil spent);
      free = Each-append (λ p. D p ≡ false) t.1.spare (t.0 ∷ []) (rw k.spared s.free) (free, tt);
      many = omega (arith, length-append t.1.spare (t.0 ∷ []), ap length k.spared, s.many);
    }
given_sound D pool spent n (Some d) l t s k =
    let home : IsHome D (d, t.0) = ⊎_elim (λ e. inl (sym (eqb-true d t.0 e))) (λ e. inr e) k.serves in
    record {
      conserved = λ x. omega (arith, s.conserved x, k.conserves x, ap (count x) (sources-append t.1.pairs ((d, t.0) ∷ [])), count-append x (sources t.1.pairs) (t.0 ∷ []));
      homes = Each-append (IsHome D) t.1.pairs ((d, t.0) ∷ []) k.homes (home, tt);
      order = destinations-append t.1.pairs ((d, t.0) ∷ []) ∙ ap (λ ys. ys ++ d ∷ []) (k.order ∙ s.order);
      free = rw k.spared s.free;
      many = ap length k.spared ∙ s.many ∙ (omega arith);
    }

pub served_sound : (D : ℕ → Bool) (pool spent : List ℕ) (n : ℕ) (rs : List (Option ℕ)) (l o : Loading)
    → ((x : ℕ) → count x pool ≤ 1) → Sound D pool spent n l → serve D rs l ≡ Some o → Sound D pool (spent ++ wishes_among rs) (n + others rs) o
served_sound D pool spent n [] l o c s e =
    let z : n ≡ n + others [] = omega arith in
    subst (Sound D pool (spent ++ []) (n + others [])) (some_same l o e) (subst (λ m. Sound D pool (spent ++ []) m l) z (subst (λ ys. Sound D pool ys n l) (sym (append-nil spent)) s))
served_sound D pool spent n (r ∷ rs) l o c s e = go (take_page D r l) refl (λ t. served_sound D pool (spent ++ wishes_among (r ∷ [])) (n + others (r ∷ [])) rs (give_page r t) o c)
  where
    go : (m : Option (ℕ × Loading)) → take_page D r l ≡ m → ((t : ℕ × Loading) → Sound D pool (spent ++ wishes_among (r ∷ [])) (n + others (r ∷ [])) (give_page r t) → serve D rs (give_page r t) ≡ Some o → Sound D pool ((spent ++ wishes_among (r ∷ [])) ++ wishes_among rs) (n + others (r ∷ []) + others rs) o) → Sound D pool (spent ++ wishes_among (r ∷ rs)) (n + others (r ∷ rs)) o
    go None f ih = absurd (none-some o (rw (f, serve) at e))
    go (Some t) f ih =
        let k = taken_took D r l t s.homes (λ x. omega (arith, s.conserved x, c x)) f in
        let v = ih t (given_sound D pool spent n r l t s k) (rw (f, serve) at e) in
        subst (λ ys. Sound D pool ys (n + others (r ∷ rs)) o) (append_assoc spent (wishes_among (r ∷ [])) (wishes_among rs) ∙ ap (λ ys. spent ++ ys) (wished-cons r rs))
        (subst (λ m. Sound D pool ((spent ++ wishes_among (r ∷ [])) ++ wishes_among rs) m o) (others-cons n r rs) v)
