-- The pages left, and the usable ones among them.
use Rattle.std.proofs.Common.{◌≡◌, ℕ, ◌+◌, ◌≤◌, ◌^◌, ◌++◌, ◌&&◌, ◌||◌, List, [], ◌∷◌, take, drop, length, cond, Bool, true, false, refl, sym, ap, ◌∙◌, subst, arith, inl, inr, length-append}
use Rattle.std.specs.Prelude.{not, eqb}
use Rattle.std.specs.List.{filter, AllByRecursion}
use Rattle.std.proofs.lemmas.Bool.{ne_eqb}
use Rattle.std.proofs.lemmas.Bool.Decides.{nat_tests, eqb_tells}
use Rattle.std.proofs.lemmas.List.{take-append-drop}
use Rattle.std.proofs.lemmas.List.Elements.{filter-append}
use Rattle.std.proofs.lemmas.List.Filters.{length-filter_both}
use Rattle.kx_laws.proofs.Booleans.{and_parts, not_true, true_false}
use Rattle.kx_pages.specs.Lists.{Has, has, Distinct}
use Rattle.kx_pages.specs.inner.Numbers.{IsPage}
use Rattle.kx_pages.proofs.Lists.{Each-map, Each-at, Each-from_Has, Has-from_has, has-from_Has, has-push}
use Rattle.kx_pages.proofs.Counting.{no_longer, Distinct-append, Distinct-filter}
use Rattle.page_pool.specs.Pages.{is_usable, left_among, usable_among}
use Rattle.page_pool.specs.inner.Queue.{is_waiting}

-- ---- filters

filter_all : (f : ℕ → Bool) (xs : List ℕ) → AllByRecursion (λ x. f x ≡ true) xs → filter f xs ≡ xs
filter_all f [] h = refl
filter_all f (x ∷ xs) h = rw h.0 (ap (λ (ys : List ℕ). x ∷ ys) (filter_all f xs h.1))

filter_none : (f : ℕ → Bool) → ((x : ℕ) → f x ≡ false) → (xs : List ℕ) → filter f xs ≡ []
filter_none f h [] = refl
filter_none f h (x ∷ xs) = rw (h x) (filter_none f h xs)

filter_same : (f g : ℕ → Bool) → ((x : ℕ) → f x ≡ g x) → (xs : List ℕ) → filter f xs ≡ filter g xs
filter_same f g h [] = refl
filter_same f g h (x ∷ xs) = rw (h x, filter_same f g h xs) refl

filter_twice : (f g : ℕ → Bool) (xs : List ℕ) → filter f (filter g xs) ≡ filter (λ x. g x && f x) xs
filter_twice f g [] = refl
filter_twice f g (x ∷ xs) = go (g x) (f x) refl refl (filter_twice f g xs)
  where
    go : (a b : Bool) → g x ≡ a → f x ≡ b → filter f (filter g xs) ≡ filter (λ y. g y && f y) xs → filter f (filter g (x ∷ xs)) ≡ filter (λ y. g y && f y) (x ∷ xs)
    go true true p q ih = rw (p, q) (ap (λ (ys : List ℕ). x ∷ ys) ih)
    go true false p q ih = rw (p, q) ih
    go false b p q ih = rw p ih

Has-filter : (f : ℕ → Bool) (xs : List ℕ) (q : ℕ) → Has q (filter f xs) → (f q ≡ true) × Has q xs
Has-filter f [] q h = absurd h
Has-filter f (x ∷ xs) q h = go (f x) refl h (Has-filter f xs q)
  where
    go : (b : Bool) → f x ≡ b → Has q (cond b (x ∷ filter f xs) (filter f xs)) → (Has q (filter f xs) → (f q ≡ true) × Has q xs) → (f q ≡ true) × Has q (x ∷ xs)
    go true e (inl same) ih = (subst (λ y. f y ≡ true) same e, inl same)
    go true e (inr k) ih = let t = ih k in (t.0, inr t.1)
    go false e k ih = let t = ih k in (t.0, inr t.1)

Has-into_filter : (f : ℕ → Bool) (xs : List ℕ) (q : ℕ) → f q ≡ true → Has q xs → Has q (filter f xs)
Has-into_filter f [] q e h = absurd h
Has-into_filter f (x ∷ xs) q e (inl same) = let t : f x ≡ true = subst (λ y. f y ≡ true) (sym same) e in rw t (inl same)
Has-into_filter f (x ∷ xs) q e (inr k) = go (f x) (Has-into_filter f xs q e k)
  where
    go : (b : Bool) → Has q (filter f xs) → Has q (cond b (x ∷ filter f xs) (filter f xs))
    go true k = inr k
    go false k = k

length-filter_of : (f : ℕ → Bool) (xs : List ℕ) → length (filter f xs) ≤ length xs
length-filter_of f xs = omega (arith, length-filter_both f (λ x. not (f x)) (λ x. refl) xs)

-- ---- usable pages

pub eqb_same : (x : ℕ) → eqb x x ≡ true
eqb_same x = elim (eqb_tells x x) [ inl t ↦ t.0 | inr t ↦ absurd (t.1 refl) ]

-- those that are waiting
pub usable_waiting : (limit : ℕ) (xs d : List ℕ) → usable_among limit xs d ≡ filter (λ x. is_waiting limit (has x d) x) xs
unfolding usable_among left_among
usable_waiting limit xs d = filter_twice (is_usable limit) (λ q. not (has q d)) xs

pub usable_more : (limit : ℕ) (xs d : List ℕ) (x : ℕ) → usable_among limit (xs ++ x ∷ []) d ≡ usable_among limit xs d ++ cond (is_waiting limit (has x d) x) (x ∷ []) []
usable_more limit xs d x =
    let f : ℕ → Bool = λ y. is_waiting limit (has y d) y in
    usable_waiting limit (xs ++ x ∷ []) d ∙ filter-append f xs (x ∷ []) ∙ ap (λ ys. ys ++ cond (is_waiting limit (has x d) x) (x ∷ []) []) (sym (usable_waiting limit xs d))

-- where no page is drawn
pub usable_undrawn : (limit : ℕ) (made : List ℕ) → usable_among limit made [] ≡ filter (is_usable limit) made
usable_undrawn limit made = usable_waiting limit made []

-- every page starts below the limit of a new pool, and none below 0
page_usable : (q : ℕ) → IsPage q → is_usable (2 ^ 46) q ≡ true
page_usable q h = grind (arith, nat_tests)

pub usable_all : (made : List ℕ) → AllByRecursion IsPage made → usable_among (2 ^ 46) made [] ≡ made
usable_all made low = usable_undrawn (2 ^ 46) made ∙ filter_all (is_usable (2 ^ 46)) made (Each-map made page_usable low)

none_usable : (q : ℕ) → is_usable 0 q ≡ false
none_usable q = grind (arith, nat_tests)

pub usable_none : (made : List ℕ) → usable_among 0 made [] ≡ []
usable_none made = usable_undrawn 0 made ∙ filter_none (is_usable 0) none_usable made

-- a usable page is one of the list, and is not drawn
pub usable_are : (limit : ℕ) (xs d : List ℕ) (q : ℕ) → Has q (usable_among limit xs d) → (has q d ≡ false) × Has q xs
usable_are limit xs d q h =
    let f : ℕ → Bool = λ x. is_waiting limit (has x d) x in
    let t = Has-filter f xs q (subst (Has q) (usable_waiting limit xs d) h) in
    (not_true (has q d) (and_parts (not (has q d)) (is_usable limit q) t.0).0, t.1)

pub usable_distinct : (limit : ℕ) (xs d : List ℕ) → Distinct xs → Distinct (usable_among limit xs d)
usable_distinct limit xs d once = subst Distinct (sym (usable_waiting limit xs d)) (Distinct-filter (λ x. is_waiting limit (has x d) x) xs once)

-- the pages drawn and the usable ones differ
pub parts_distinct : (limit : ℕ) (xs d : List ℕ) → Distinct xs → Distinct d → Distinct (d ++ usable_among limit xs d)
parts_distinct limit xs d once apart = Distinct-append d (usable_among limit xs d) apart (usable_distinct limit xs d once) (λ q h k. clash (has-from_Has q d h) (usable_are limit xs d q k).0)
  where
    clash : {b : Bool} → b ≡ true → b ≡ false → ⊥
    clash p q = true_false (sym p ∙ q)

-- once its first page is drawn, the others are left
but_one : (a b c : Bool) → (not (a || c) && b) ≡ ((not a && b) && not c)
but_one true b c = refl
but_one false true true = refl
but_one false true false = refl
but_one false false true = refl
but_one false false false = refl

pub usable_drawn : (limit : ℕ) (xs d : List ℕ) (q : ℕ) (rest : List ℕ) → Distinct xs → usable_among limit xs d ≡ q ∷ rest → usable_among limit xs (d ++ q ∷ []) ≡ rest
usable_drawn limit xs d q rest once first =
    let f : ℕ → Bool = λ x. is_waiting limit (has x d) x in
    let g : ℕ → Bool = λ x. is_waiting limit (has x (d ++ q ∷ [])) x in
    let other : ℕ → Bool = λ x. not (eqb q x) in
    let apart : Distinct (q ∷ rest) = subst Distinct first (usable_distinct limit xs d once) in
    usable_waiting limit xs (d ++ q ∷ [])
    ∙ filter_same g (λ x. f x && other x) (λ x. ap (λ b. not b && is_usable limit x) (has-push x q d) ∙ but_one (has x d) (is_usable limit x) (eqb q x)) xs
    ∙ sym (filter_twice other f xs)
    ∙ ap (filter other) (sym (usable_waiting limit xs d) ∙ first)
    ∙ (rw (eqb_same q) (filter_all other rest (Each-map rest (λ y n. ap not (ne_eqb q y n)) apart.0)))

-- the pages drawn and those left are all pages
pub left_length : (xs d : List ℕ) → Distinct xs → Distinct d → AllByRecursion (λ q. Has q xs) d → length d + length (left_among xs d) ≡ length xs
unfolding left_among
left_length xs d once apart among =
    let f : ℕ → Bool = λ q. has q d in
    let fewer = no_longer (filter f xs) d (Distinct-filter f xs once) (Each-from_Has (λ q. Has q d) (filter f xs) (λ q h. Has-from_has q d (Has-filter f xs q h).0)) in
    let more = no_longer d (filter f xs) apart (Each-from_Has (λ q. Has q (filter f xs)) d (λ q h. Has-into_filter f xs q (has-from_Has q d h) (Each-at (λ p. Has p xs) d q among h))) in
    omega (arith, fewer, more, length-filter_both f (λ q. not (has q d)) (λ q. refl) xs)

pub usable_fits : (limit : ℕ) (xs d : List ℕ) (i : ℕ) → length (usable_among limit (take i xs) d) ≤ length (left_among xs d)
unfolding usable_among left_among
usable_fits limit xs d i =
    let f : ℕ → Bool = λ q. not (has q d) in
    let parts : length (filter f xs) ≡ length (filter f (take i xs)) + length (filter f (drop i xs)) = ap (λ ys. length (filter f ys)) (sym (take-append-drop i xs)) ∙ ap length (filter-append f (take i xs) (drop i xs)) ∙ length-append (filter f (take i xs)) (filter f (drop i xs)) in
    omega (arith, parts, length-filter_of (is_usable limit) (filter f (take i xs)))
