-- What the first span that ends behind a page tells of all spans.
use Rattle.std.proofs.Common.{◌≡◌, ℕ, zero, suc, ◌+◌, ◌<◌, ◌≤◌, ◌||◌, Bool, true, false, List, [], ◌∷◌, length, get_or, Option, Some, None, refl, sym, ap, ◌∙◌, inl, inr, arith}
use Rattle.std.proofs.lemmas.Bool.Decides.{nat_tests}
use Rattle.std.proofs.lemmas.Bool.{cases_lt, cond-true, cond-false, lt-ltb, le-ltb, or_from}
use Rattle.std.specs.List.{slice_get}
use Rattle.std.specs.List.Sorted.{IsNonDecreasingBy}
use Rattle.kx_laws.proofs.Booleans.{or_first, or_second}
use Rattle.kx_pages.specs.Spans.{Run, end, in_span, in_spans, AreApart}
use Rattle.kx_pages.specs.inner.Edits.{spans_meet, reaching}
use Rattle.kx_pages.proofs.Spans.{low_none, behind_none}
use Rattle.kx_pages.proofs.Counted.{any_meets}

-- whether q is in the span, where there is one
abbrev pub found_has : Option Run → ℕ → Bool
found_has None q = false
found_has (Some r) q = in_span r q

-- whether the span, where there is one, has a page in common with s
abbrev pub found_meets : Option Run → Run → Bool
found_meets None s = false
found_meets (Some r) s = spans_meet r s

reaching-here : (r : Run) (rs : List Run) (q : ℕ) → q < end r → reaching (r ∷ rs) q ≡ Some r
reaching-here r rs q h = cond-true _ _ _ (lt-ltb _ _ h)

reaching-later : (r : Run) (rs : List Run) (q : ℕ) → end r ≤ q → reaching (r ∷ rs) q ≡ reaching rs q
reaching-later r rs q h = cond-false _ _ _ (le-ltb _ _ h)

pub has_by_reaching : (b : ℕ) (rs : List Run) (q : ℕ) → AreApart b rs → in_spans rs q ≡ found_has (reaching rs q) q
has_by_reaching b [] q a = refl
has_by_reaching b (r ∷ rs) q a =
    elim (cases_lt q (end r)) [
      | inl h ↦ or_first (in_span r q) (in_spans rs q) (low_none (end r + 1) rs q a.3 (omega arith)) ∙ sym (ap (λ o. found_has o q) (reaching-here r rs q h))
      | inr h ↦ or_second (in_span r q) (in_spans rs q) (behind_none r q h) ∙ has_by_reaching (end r + 1) rs q a.3 ∙ sym (ap (λ o. found_has o q) (reaching-later r rs q h))
    ]

meets_not : (r s : Run) → end s ≤ r.first → spans_meet r s ≡ false
meets_not r s h = grind (arith, nat_tests)

passed_not : (r s : Run) → end r ≤ s.first → spans_meet r s ≡ false
passed_not r s h = grind (arith, nat_tests)

-- spans that all start behind s do not meet it
pub low_meets : (b : ℕ) (rs : List Run) (s : Run) → AreApart b rs → end s ≤ b → any_meets rs s ≡ false
low_meets b [] s a h = refl
low_meets b (r ∷ rs) s a h = or_from _ _ (meets_not r s (omega arith)) (low_meets (end r + 1) rs s a.3 (omega arith))

rest_meets : (r : Run) (rs : List Run) (s : Run) → AreApart (end r + 1) rs → 0 < r.count → s.first < end r → (t : Bool) → spans_meet r s ≡ t → (t || any_meets rs s) ≡ t
rest_meets r rs s a n h true e = refl
rest_meets r rs s a n h false e =
    let below : end s ≤ end r = no_meet r s n h e in
    low_meets (end r + 1) rs s a (omega arith)
  where
    no_meet : (r s : Run) → 0 < r.count → s.first < end r → spans_meet r s ≡ false → end s ≤ end r
    no_meet r s n h e = grind (arith, nat_tests)

pub meets_by_reaching : (b : ℕ) (rs : List Run) (s : Run) → AreApart b rs → any_meets rs s ≡ found_meets (reaching rs s.first) s
meets_by_reaching b [] s a = refl
meets_by_reaching b (r ∷ rs) s a =
    elim (cases_lt s.first (end r)) [
      | inl h ↦ rest_meets r rs s a.3 a.1 h (spans_meet r s) refl ∙ sym (ap (λ o. found_meets o s) (reaching-here r rs s.first h))
      | inr h ↦ or_second (spans_meet r s) (any_meets rs s) (passed_not r s h) ∙ meets_by_reaching (end r + 1) rs s a.3 ∙ sym (ap (λ o. found_meets o s) (reaching-later r rs s.first h))
    ]

-- the ends rise
all_end_behind : (b : ℕ) (rs : List Run) (j : ℕ) (d : Run) → AreApart b rs → j < length rs → b ≤ end (get_or rs j d)
all_end_behind b [] j d a h = absurd (omega arith)
all_end_behind b (r ∷ rs) zero d a h = omega arith
all_end_behind b (r ∷ rs) (suc j) d a h = omega (arith, all_end_behind (end r + 1) rs j d a.3 (omega arith))

pub ends_rise : (b : ℕ) (rs : List Run) → AreApart b rs → IsNonDecreasingBy end rs
ends_rise b [] a i j d le h = absurd (omega arith)
ends_rise b (r ∷ rs) a zero zero d le h = omega arith
ends_rise b (r ∷ rs) a zero (suc j) d le h = omega (arith, all_end_behind (end r + 1) rs j d a.3 (omega arith))
ends_rise b (r ∷ rs) a (suc i) zero d le h = absurd (omega arith)
ends_rise b (r ∷ rs) a (suc i) (suc j) d le h = ends_rise (end r + 1) rs a.3 i j d (omega arith) (omega arith)

-- the place that halving finds is that of the first
pub reaching_at : (rs : List Run) (q i : ℕ) → ((k : ℕ) (d : Run) → k < i → end (get_or rs k d) ≤ q) → ((d : Run) → i < length rs → q < end (get_or rs i d)) → slice_get rs i ≡ reaching rs q
reaching_at [] q i low high = refl
reaching_at (r ∷ rs) q zero low high = sym (reaching-here r rs q (high r (omega arith)))
reaching_at (r ∷ rs) q (suc i) low high =
    reaching_at rs q i (λ k d h. low (suc k) d (omega arith)) (λ d h. high d (omega arith)) ∙ sym (reaching-later r rs q (low 0 r (omega arith)))
