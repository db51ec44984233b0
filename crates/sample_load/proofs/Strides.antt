-- No page stands twice in the pool of a sample.
use Rattle.std.proofs.Common.{◌≡◌, ℕ, zero, suc, ◌+◌, ◌<◌, ◌≤◌, ◌++◌, List, [], ◌∷◌, length, take, map, Option, Some, None, true, false, Result, Ok, Err, refl, sym, ap, ◌∙◌, subst, arith, inl, inr}
use Rattle.std.specs.Prelude.{◌⊎◌, ◌≢◌, cond, eqb, slice_get}
use Rattle.std.specs.List.{range_with_len}
use Rattle.std.proofs.lemmas.Bool.Decides.{eqb_tells}
use Rattle.std.proofs.lemmas.List.FromFn.{take-map-range_with_len, length-map-range_with_len, map-range_with_len_more}
use Rattle.std.proofs.lemmas.Option.{none-some}
use Rattle.kx_laws.proofs.Options.{some_same}
use Rattle.kx_pages.specs.Lists.{count}
use Rattle.page_pool.specs.Repeats.{first_repeat}
use Rattle.page_pool.specs.inner.Repeats.{IsFirstRepeat}
use Rattle.page_pool.specs.File.{each_once, unless_repeat}
use Rattle.page_pool.specs.inner.File.{RepeatIsFirst}
use Rattle.page_pool.specs.declared.fault.PoolFault.{PoolFault}
use Rattle.page_pool.specs.declared.fault.PoolFault.TheVariants as faults
use Rattle.sample_load.specs.Samples.{pool_page, pool_pages}

-- 40503 and 16384 have no common factor
one_place : (a b : ℕ) → a < 16384 → b < 16384 → pool_page a ≡ pool_page b → a ≡ b
one_place a b la lb e = omega (arith, la, lb, e)

-- the page at a place
got : (n a i x : ℕ) → slice_get (map pool_page (range_with_len a n)) i ≡ Some x → (i < n) × (pool_page (a + i) ≡ x)
got zero a i x e = absurd (none-some x e)
got (suc n) a zero x e =
    let here : a + 0 ≡ a = omega arith in
    (omega arith, ap pool_page here ∙ some_same _ x e)
got (suc n) a (suc i) x e =
    let r = got n (a + 1) i x e in
    let here : a + suc i ≡ a + 1 + i = omega arith in
    (omega (arith, r.0), ap pool_page here ∙ r.1)

-- a page that is among those of some places
place_of : (n a x : ℕ) → 1 ≤ count x (map pool_page (range_with_len a n)) → (j : ℕ) × (j < n) × (pool_page (a + j) ≡ x)
place_of zero a x h = absurd (omega (arith, h))
place_of (suc n) a x h = go (eqb_tells (pool_page a) x) (place_of n (a + 1) x)
  where
    go : ((eqb (pool_page a) x ≡ true) × (pool_page a ≡ x)) ⊎ ((eqb (pool_page a) x ≡ false) × (pool_page a ≢ x))
        → (1 ≤ count x (map pool_page (range_with_len (a + 1) n)) → (j : ℕ) × (j < n) × (pool_page (a + 1 + j) ≡ x))
        → (j : ℕ) × (j < suc n) × (pool_page (a + j) ≡ x)
    go (inl t) later =
        let here : a + 0 ≡ a = omega arith in
        (0, omega arith, ap pool_page here ∙ t.1)
    go (inr t) later =
        let rest = map pool_page (range_with_len (a + 1) n) in
        let more : count x (map pool_page (range_with_len a (suc n))) ≡ 0 + count x rest = ap (λ b. cond b 1 0 + count x rest) t.0 in
        let r = later (omega (arith, h, more)) in
        let here : a + suc r.0 ≡ a + 1 + r.0 = omega arith in
        (suc r.0, omega (arith, r.1), ap pool_page here ∙ r.2)

-- no page is a repeat
no_repeat : (n x : ℕ) → n ≤ 16384 → IsFirstRepeat (pool_pages n) x → ⊥
unfolding pool_pages
no_repeat n x few r =
    let here = got n 0 r.place x r.here in
    let front : take r.place (map pool_page (range_with_len 0 n)) ≡ map pool_page (range_with_len 0 r.place) = take-map-range_with_len pool_page 0 n r.place (omega (arith, here.0)) in
    let earlier = place_of r.place 0 x (subst (λ xs. 1 ≤ count x xs) front r.earlier) in
    let same : earlier.0 ≡ r.place = one_place earlier.0 r.place (omega (arith, earlier.1, here.0, few)) (omega (arith, here.0, few)) (sym (ap pool_page (from_zero earlier.0)) ∙ earlier.2 ∙ sym here.1 ∙ ap pool_page (from_zero r.place)) in
    omega (arith, same, earlier.1)
  where
    from_zero : (n : ℕ) → 0 + n ≡ n
    from_zero n = omega arith

-- pages of which each stands once are no fault
is_repeat : (o : Option ℕ) (xs : List ℕ) (e : PoolFault) → unless_repeat o xs ≡ Err e → (p : ℕ) × (e ≡ faults.Repeats p)
is_repeat None xs e h = absurd (ok_err xs e h)
  where
    ok_err : (xs : List ℕ) (e : PoolFault) → ◌≡◌ {A = Result (List ℕ) PoolFault} (Ok xs) (Err e) → ⊥
    ok_err xs e h = cc
is_repeat (Some p) xs e h = (p, same e (faults.Repeats p) (sym h))
  where
    same : (a b : PoolFault) → ◌≡◌ {A = Result (List ℕ) PoolFault} (Err a) (Err b) → a ≡ b
    same a b h = cc

pub not_refused : (n : ℕ) (xs : List ℕ) (e : PoolFault) → xs ≡ pool_pages n → n ≤ 16384 → (each_once xs ≡ Err e) ⊎ (e ≡ faults.Memory) → RepeatIsFirst xs e → (e ≡ faults.Memory → ⊥) → ⊥
not_refused n xs e same few (inr m) first other = other m
not_refused n xs e same few (inl h) first other =
    let r = is_repeat (first_repeat [] xs) xs e h in
    no_repeat n r.0 few (subst (λ xs. IsFirstRepeat xs r.0) same (subst (RepeatIsFirst xs) r.1 first))

-- one more page
pages_more : (n : ℕ) → pool_pages (n + 1) ≡ pool_pages n ++ pool_page n ∷ []
unfolding pool_pages
pages_more n =
    let place : 0 + n ≡ n = omega arith in
    map-range_with_len_more pool_page 0 n n place

pub page_more : (pages more : List ℕ) (n p : ℕ) → pages ≡ pool_pages n → p ≡ pool_page n → more ≡ pages ++ p ∷ [] → more ≡ pool_pages (n + 1)
page_more pages more n p old is new = new ∙ ap (λ xs. xs ++ p ∷ []) old ∙ ap (λ p. pool_pages n ++ p ∷ []) is ∙ sym (pages_more n)

pub pages_none : pool_pages 0 ≡ []
unfolding pool_pages
pages_none = refl

pub length-pool_pages : (n : ℕ) → length (pool_pages n) ≡ n
unfolding pool_pages
length-pool_pages n = length-map-range_with_len pool_page 0 n
