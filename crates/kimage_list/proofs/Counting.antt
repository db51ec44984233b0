-- How many pages a load takes.
use Rattle.std.proofs.Common.{◌≡◌, ℕ, ◌+◌, ◌≤◌, List, [], ◌∷◌, ◌++◌, length, Option, Some, None, refl, sym, ap, ◌∙◌, subst, ⊎_elim, arith, append_assoc, length-append, Bool, true, false}
use Rattle.std.specs.List.{AllByRecursion}
use Rattle.std.specs.Prelude.{◌≢◌, eqb, not, ◌||◌}
use Rattle.std.proofs.lemmas.Option.{none-some}
use Rattle.std.proofs.lemmas.Bool.{or_parts, eqb-false, ne_eqb}
use Rattle.kx_pages.proofs.Counting.{Distinct-from_count, count-from_has_not, no_longer}
use Rattle.kx_pages.proofs.Lists.{Has-either}
use Rattle.kimage_list.proofs.Takes.{Takes, size, no_destination, destinations-append, Awaited, taken_took, Sound, given_sound, wishes_among, others}
use Rattle.kimage_list.specs.inner.Drafts.{one, amount}
use Rattle.kimage_list.specs.Load.{source_of, is_for, Loading, draw, take_page, give_page}
use Rattle.kx_pages.specs.Lists.{Has, destinations, has, count}
use Rattle.kx_pages.proofs.Lists.{Each-map, Each-both, Each-append}
use Rattle.kx_pages.proofs.Counting.{Each-from_no_count}
use Rattle.kx_laws.proofs.Options.{some_same}
use Rattle.kx_laws.proofs.Booleans.{not_false}

-- a list of members of another, none of them twice, is no longer
pub counted_fit : (xs ys : List ℕ) → ((x : ℕ) → count x xs ≤ 1) → AllByRecursion (λ x. Has x ys) xs → length xs ≤ length ys
counted_fit xs ys c h = no_longer xs ys (Distinct-from_count xs c) h

-- a page drawn for d is not filed
draw_own : (D : ℕ → Bool) (d : ℕ) (pairs : List (ℕ × ℕ)) (spare filed left : List ℕ) (o : ℕ × Loading)
    → draw D (Some d) pairs spare filed left ≡ Some o → count d filed ≡ 0 → count d o.1.filed ≡ 0
draw_own D d pairs spare filed [] o e z = absurd (none-some o e)
draw_own D d pairs spare filed (q ∷ left) o e z = go (eqb d q || not (D q)) refl (draw_own D d pairs spare (q ∷ filed) left o)
  where
    seek : (eqb d q || not (D q)) ≡ false → (m : Option ℕ) → source_of q pairs ≡ m → (draw D (Some d) pairs spare (q ∷ filed) left ≡ Some o → count d (q ∷ filed) ≡ 0 → count d o.1.filed ≡ 0) → count d o.1.filed ≡ 0
    seek f None g ih =
        let n : d ≢ q = eqb-false d q (or_parts (eqb d q) (not (D q)) f).0 in
        ih (rw (f, draw, g) at e) (grind (arith, z, n))
    seek f (Some s) g ih = let i = some_same _ _ (rw (f, draw, g) at e) in subst (λ t. count d t.1.filed ≡ 0) i z

    go : (b : Bool) → (eqb d q || not (D q)) ≡ b → (draw D (Some d) pairs spare (q ∷ filed) left ≡ Some o → count d (q ∷ filed) ≡ 0 → count d o.1.filed ≡ 0) → count d o.1.filed ≡ 0
    go true f ih = let i = some_same _ _ (rw (f, draw) at e) in subst (λ t. count d t.1.filed ≡ 0) i z
    go false f ih = seek f (source_of q pairs) refl ih

taken_own : (D : ℕ → Bool) (d : ℕ) (l : Loading) (t : ℕ × Loading) → ((x : ℕ) → amount x l ≤ 1) → Takes D (Some d) l t → take_page D (Some d) l ≡ Some t → count d t.1.filed ≡ 0
taken_own D d l t c k e = go (has d l.filed) refl
  where
    go : (b : Bool) → has d l.filed ≡ b → count d t.1.filed ≡ 0
    go true f =
        let i = some_same _ _ (rw (f, take_page) at e) in
        let s : d ≡ t.0 = ap (λ u. u.0) i in
        let one_d : one d t.0 ≡ 1 = grind (arith, s) in
        omega (arith, k.conserves d, one_d, c d)
    go false f = draw_own D d l.pairs l.spare l.filed l.left t (rw (f, take_page) at e) (count-from_has_not d l.filed f)

-- where no page is left that serves, each page left is a destination still to be loaded
draw_none : (D : ℕ → Bool) (r : Option ℕ) (pairs : List (ℕ × ℕ)) (spare filed left : List ℕ)
    → draw D r pairs spare filed left ≡ None → AllByRecursion (λ q. Awaited D pairs q × (is_for r q ≡ false)) left
draw_none D r pairs spare filed [] e = tt
draw_none D r pairs spare filed (q ∷ left) e = go (is_for r q || not (D q)) refl (draw_none D r pairs spare (q ∷ filed) left)
  where
    Rest : Type 0
    Rest = draw D r pairs spare (q ∷ filed) left ≡ None → AllByRecursion (λ q. Awaited D pairs q × (is_for r q ≡ false)) left

    seek : (is_for r q || not (D q)) ≡ false → (m : Option ℕ) → source_of q pairs ≡ m → Rest → AllByRecursion (λ q. Awaited D pairs q × (is_for r q ≡ false)) (q ∷ left)
    seek f None g ih =
        let p = or_parts (is_for r q) (not (D q)) f in
        (((not_false (D q) p.1, no_destination q pairs g), p.0), ih (rw (f, draw, g) at e))
    seek f (Some s) g ih = absurd (none-some _ (sym (rw (f, draw, g) at e)))

    go : (b : Bool) → (is_for r q || not (D q)) ≡ b → Rest → AllByRecursion (λ q. Awaited D pairs q × (is_for r q ≡ false)) (q ∷ left)
    go true f ih = absurd (none-some _ (sym (rw (f, draw) at e)))
    go false f ih = seek f (source_of q pairs) refl ih

-- all that holds of a loading under way
pub record Full (D : ℕ → Bool) (pool spent : List ℕ) (n : ℕ) (l : Loading) : Type 0 where
  pub sound : Sound D pool spent n l
  pub files : AllByRecursion (Awaited D l.pairs) l.filed
  pub sizes : size l ≡ length pool
  pub ends : (front : List ℕ) × (pool ≡ front ++ l.left)

given_files : (D : ℕ → Bool) (r : Option ℕ) (l : Loading) (t : ℕ × Loading) → ((x : ℕ) → amount x l ≤ 1) → Takes D r l t → take_page D r l ≡ Some t
    → AllByRecursion (Awaited D l.pairs) l.filed → AllByRecursion (Awaited D (give_page r t).pairs) (give_page r t).filed
given_files D None l t c k e w = k.files w
given_files D (Some d) l t c k e w =
    let away : AllByRecursion (λ p. p ≢ d) t.1.filed = Each-from_no_count d t.1.filed (taken_own D d l t c k e) in
    Each-both t.1.filed (λ p a n. (a.0, λ h. ⊎_elim a.1 (λ g. ⊎_elim (λ f. n (sym f)) (λ f. f) g) (Has-either p (destinations t.1.pairs) (d ∷ []) (subst (Has p) (destinations-append t.1.pairs ((d, t.0) ∷ [])) h)))) (k.files w) away

given_size : (r : Option ℕ) (t : ℕ × Loading) → size (give_page r t) ≡ size t.1 + 1
given_size None t = omega (arith, length-append t.1.spare (t.0 ∷ []))
given_size (Some d) t = omega (arith, length-append t.1.pairs ((d, t.0) ∷ []))

given_left : (r : Option ℕ) (t : ℕ × Loading) → (give_page r t).left ≡ t.1.left
given_left None t = refl
given_left (Some d) t = refl

pub full_on : (D : ℕ → Bool) (pool spent : List ℕ) (n : ℕ) (r : Option ℕ) (l : Loading) (t : ℕ × Loading) → ((x : ℕ) → count x pool ≤ 1) → Full D pool spent n l → take_page D r l ≡ Some t → Full D pool (spent ++ wishes_among (r ∷ [])) (n + others (r ∷ [])) (give_page r t)
full_on D pool spent n r l t c f e =
    let once : (x : ℕ) → amount x l ≤ 1 = λ x. omega (arith, f.sound.conserved x, c x) in
    let k = taken_took D r l t f.sound.homes once e in
    record {
      sound = given_sound D pool spent n r l t f.sound k;
      files = given_files D r l t once k e f.files;
      sizes = given_size r t ∙ k.sizes ∙ f.sizes;
      ends = (f.ends.0 ++ k.ends.0, f.ends.1 ∙ ap (λ ys. f.ends.0 ++ ys) (k.ends.1 ∙ ap (λ ys. k.ends.0 ++ ys) (sym (given_left r t))) ∙ sym (append_assoc f.ends.0 k.ends.0 (give_page r t).left));
    }

-- where taking fails, the pages left and filed are destinations that later requests want
abbrev pub Waits : (ℕ → Bool) → Option ℕ → List (ℕ × ℕ) → ℕ → Type 0
Waits D r qs p = Awaited D qs p × (is_for r p ≡ false)

pub taken_none : (D : ℕ → Bool) (r : Option ℕ) (l : Loading) → AllByRecursion (Awaited D l.pairs) l.filed → take_page D r l ≡ None → AllByRecursion (Waits D r l.pairs) (l.left ++ l.filed)
taken_none D None l w e = Each-append (Waits D None l.pairs) l.left l.filed (draw_none D None l.pairs l.spare l.filed l.left e) (Each-map l.filed (λ p a. (a, refl)) w)
taken_none D (Some d) l w e = go (has d l.filed) refl
  where
    go : (b : Bool) → has d l.filed ≡ b → AllByRecursion (Waits D (Some d) l.pairs) (l.left ++ l.filed)
    go true f = absurd (none-some _ (sym (rw (f, take_page) at e)))
    go false f = Each-append (Waits D (Some d) l.pairs) l.left l.filed (draw_none D (Some d) l.pairs l.spare l.filed l.left (rw (f, take_page) at e))
        (Each-both l.filed (λ p a n. (a, ne_eqb d p (λ g. n (sym g)))) w (Each-from_no_count d l.filed (count-from_has_not d l.filed f)))

pub none_filed : (D : ℕ → Bool) (qs : List (ℕ × ℕ)) (xs : List ℕ) → ((p : ℕ) → D p ≡ true → Has p (destinations qs)) → AllByRecursion (Awaited D qs) xs → xs ≡ []
none_filed D qs [] all w = refl
none_filed D qs (x ∷ xs) all w = absurd (w.0.1 (all x w.0.0))
