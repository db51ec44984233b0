-- The pages of spans, one by one.
use Rattle.std.proofs.Common.{◌≡◌, ℕ, zero, suc, ◌+◌, ◌<◌, ◌≤◌, ◌^◌, List, [], ◌∷◌, length, refl, ap, ⊎_elim, inl, inr, arith, length-append, true, false}
use Rattle.std.specs.List.{AllByRecursion}
use Rattle.std.specs.Prelude.{◌≢◌, ◌⊎◌, ◌||◌, eqb}
use Rattle.std.proofs.lemmas.Bool.{cases_lt, or_cases, false≢true, or_right}
use Rattle.std.proofs.lemmas.Bool.Decides.{eqb_tells}
use Rattle.kx_pages.specs.Lists.{Has, count}
use Rattle.kx_pages.specs.Spans.{Run, end, in_span, in_spans, pages, AreApart}
use Rattle.kimage_list.specs.inner.Writers.{pages_from, pages_in}
use Rattle.kx_pages.proofs.Lists.{Each-map, Each-append, Has-left, Has-right}
use Rattle.kx_pages.proofs.Counting.{count-append}
use Rattle.kx_pages.proofs.Spans.{inside}

length-from : (p n : ℕ) → length (pages_from p n) ≡ n
length-from p zero = refl
length-from p (suc n) = ap suc (length-from (suc p) n)

pub length-pages_in : (rs : List Run) → length (pages_in rs) ≡ pages rs
length-pages_in [] = refl
length-pages_in (r ∷ rs) = omega (arith, length-append (pages_from r.first r.count) (pages_in rs), length-from r.first r.count, length-pages_in rs)

pub has-from : (x p n : ℕ) → p ≤ x → x < p + n → Has x (pages_from p n)
has-from x p zero a b = absurd (omega (arith, a, b))
has-from x p (suc n) a b = go (eqb_tells p x) (has-from x (suc p) n)
  where
    go : ((eqb p x ≡ true) × (p ≡ x)) ⊎ ((eqb p x ≡ false) × (p ≢ x)) → (suc p ≤ x → x < suc p + n → Has x (pages_from (suc p) n)) → Has x (pages_from p (suc n))
    go (inl t) ih = inl t.1
    go (inr t) ih = inr (ih (omega (arith, a, t.1)) (omega (arith, b)))

pub span_inside : (r : Run) (x : ℕ) → in_span r x ≡ true → (r.first ≤ x) × (x < end r)
span_inside r x h = grind (arith, h)

-- a page of the spans is one of their pages
pub has-pages_in : (rs : List Run) (x : ℕ) → in_spans rs x ≡ true → Has x (pages_in rs)
has-pages_in [] x h = absurd (false≢true h)
has-pages_in (r ∷ rs) x h = ⊎_elim
    (λ a. let b = span_inside r x a in Has-left x (pages_from r.first r.count) (pages_in rs) (has-from x r.first r.count b.0 b.1))
    (λ a. Has-right x (pages_from r.first r.count) (pages_in rs) (has-pages_in rs x a))
    (or_cases (in_span r x) (in_spans rs x) h)

from-below : (x p n : ℕ) → x < p → count x (pages_from p n) ≡ 0
from-below x p zero a = refl
from-below x p (suc n) a = let ih = from-below x (suc p) n (omega (arith, a)) in go (eqb_tells p x) ih
  where
    go : ((eqb p x ≡ true) × (p ≡ x)) ⊎ ((eqb p x ≡ false) × (p ≢ x)) → count x (pages_from (suc p) n) ≡ 0 → count x (pages_from p (suc n)) ≡ 0
    go (inl t) ih = absurd (omega (arith, a, t.1))
    go (inr t) ih = rw t.0 (omega (arith, ih))

pub from-above : (x p n : ℕ) → p + n ≤ x → count x (pages_from p n) ≡ 0
from-above x p zero a = refl
from-above x p (suc n) a = go (eqb_tells p x) (from-above x (suc p) n (omega (arith, a)))
  where
    go : ((eqb p x ≡ true) × (p ≡ x)) ⊎ ((eqb p x ≡ false) × (p ≢ x)) → count x (pages_from (suc p) n) ≡ 0 → count x (pages_from p (suc n)) ≡ 0
    go (inl t) ih = absurd (omega (arith, a, t.1))
    go (inr t) ih = rw t.0 (omega (arith, ih))

from-once : (x p n : ℕ) → count x (pages_from p n) ≤ 1
from-once x p zero = omega arith
from-once x p (suc n) = go (eqb_tells p x) (from-once x (suc p) n)
  where
    go : ((eqb p x ≡ true) × (p ≡ x)) ⊎ ((eqb p x ≡ false) × (p ≢ x)) → count x (pages_from (suc p) n) ≤ 1 → count x (pages_from p (suc n)) ≤ 1
    go (inl t) ih = let z = from-below x (suc p) n (omega (arith, t.1)) in rw t.0 (omega (arith, z))
    go (inr t) ih = rw t.0 (omega (arith, ih))

none-below : (b : ℕ) (rs : List Run) (x : ℕ) → AreApart b rs → x < b → count x (pages_in rs) ≡ 0
none-below b [] x h l = refl
none-below b (r ∷ rs) x h l =
    let z = from-below x r.first r.count (omega (arith, h.0, l)) in
    let ih = none-below (end r + 1) rs x h.3 (omega (arith, h.0, l)) in
    omega (arith, count-append x (pages_from r.first r.count) (pages_in rs), z, ih)

-- each page stands once
pub pages-once : (b : ℕ) (rs : List Run) (x : ℕ) → AreApart b rs → count x (pages_in rs) ≤ 1
pages-once b [] x h = omega arith
pages-once b (r ∷ rs) x h = ⊎_elim
    (λ l. let z = none-below (end r + 1) rs x h.3 l in omega (arith, count-append x (pages_from r.first r.count) (pages_in rs), z, from-once x r.first r.count))
    (λ l. let z = from-above x r.first r.count (omega (arith, l)) in omega (arith, count-append x (pages_from r.first r.count) (pages_in rs), z, pages-once (end r + 1) rs x h.3))
    (cases_lt x (end r + 1))

-- a page of the spans is one that has a number below 2 ^ 34
pub spans-low : (b : ℕ) (rs : List Run) (x : ℕ) → AreApart b rs → in_spans rs x ≡ true → x < 2 ^ 34
spans-low b [] x h m = absurd (false≢true m)
spans-low b (r ∷ rs) x h m = ⊎_elim
    (λ a. let c = span_inside r x a in omega (arith, c.1, h.2))
    (λ a. spans-low (end r + 1) rs x h.3 a)
    (or_cases (in_span r x) (in_spans rs x) m)

each-from : (p n : ℕ) → AllByRecursion (λ x. (p ≤ x) × (x < p + n)) (pages_from p n)
each-from p zero = tt
each-from p (suc n) = ((omega arith, omega arith), Each-map (pages_from (suc p) n) (λ x h. (omega (arith, h.0), omega (arith, h.1))) (each-from (suc p) n))

-- each of their pages is one of the spans'
pub each-pages_in : (rs : List Run) → AllByRecursion (λ x. in_spans rs x ≡ true) (pages_in rs)
each-pages_in [] = tt
each-pages_in (r ∷ rs) =
    Each-append (λ x. in_spans (r ∷ rs) x ≡ true) (pages_from r.first r.count) (pages_in rs)
    (Each-map (pages_from r.first r.count) (λ x h. ap (λ b. b || in_spans rs x) (inside r x h.0 h.1)) (each-from r.first r.count))
    (Each-map (pages_in rs) (λ x h. or_right (in_span r x) (in_spans rs x) h) (each-pages_in rs))
