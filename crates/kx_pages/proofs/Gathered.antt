-- Sets made of many spans, and what lies between spans.
use Rattle.std.proofs.Common.{◌≡◌, ℕ, ◌+◌, ◌-◌, ◌<◌, ◌≤◌, ◌^◌, ◌&&◌, ◌||◌, Bool, true, false, not, List, [], ◌∷◌, ◌++◌, length, refl, get_or, take, drop, append_assoc, sym, subst, ap, ◌∙◌, inl, inr, arith}
use Rattle.std.specs.Prelude.{nat_lt, nat_le, IfOk, Result, Ok, Err}
use Rattle.std.specs.List.Sorted.{IsPermutation}
use Rattle.std.proofs.lemmas.Bool.Decides.{nat_tests}
use Rattle.std.proofs.lemmas.Bool.{cases_lt, lt-ltb, le-ltb}
use Rattle.std.proofs.lemmas.List.{drop_more, drop_all, take_all}
use Rattle.std.proofs.lemmas.List.Folds.{list_any_more}
use Rattle.std.proofs.lemmas.List.Sorted.{list_any-IsPermutation}
use Rattle.kx_pages.specs.Spans.{Run, end, in_span, in_spans, AreApart}
use Rattle.kx_pages.specs.inner.Edits.{if_some}
use Rattle.kx_pages.proofs.Spans.{low_none, none_above}
use Rattle.kx_pages.proofs.Sets.{in_if_some, has-append, some_ahead, apart_lower}

-- ---- spans taken in one after another
pub gather_step : (xs : List Run) (i : ℕ) (s : Run) (q : ℕ) (b c : Bool) → i < length xs → s ≡ get_or xs i s → c ≡ (b || in_span s q) → b ≡ in_spans (take i xs) q → c ≡ in_spans (take (i + 1) xs) q
gather_step xs i s q b c l is new old =
    new ∙ ap (λ x. x || in_span s q) old ∙ ap (λ (r : Run). in_spans (take i xs) q || in_span r q) is ∙ sym (list_any_more (λ r. in_span r q) xs i s l)

pub gather_end : (xs : List Run) (i : ℕ) (q : ℕ) (b c : Bool) → length xs ≤ i → c ≡ b → b ≡ in_spans (take i xs) q → c ≡ in_spans xs q
gather_end xs i q b c l new old = new ∙ old ∙ ap (λ (ys : List Run). in_spans ys q) (take_all i xs l)

pub in_permuted : (xs ys : List Run) (q : ℕ) → IsPermutation xs ys → in_spans ys q ≡ in_spans xs q
in_permuted xs ys q h = sym (list_any-IsPermutation (λ r. in_span r q) xs ys h)

-- the set of the sorted spans is the set of the spans
pub of_sorted : {E : Type 0} (r : Result (List Run) E) (xs ys zs : List Run) → zs ≡ ys → IsPermutation xs ys → IfOk r (λ s. (q : ℕ) → in_spans s q ≡ in_spans zs q) → IfOk r (λ s. (q : ℕ) → in_spans s q ≡ in_spans xs q)
of_sorted (Ok s) xs ys zs e h is = λ q. is q ∙ ap (λ (ws : List Run). in_spans ws q) e ∙ in_permuted xs ys q h
of_sorted (Err d) xs ys zs e h is = is

-- ---- gaps
abbrev pub gap : ℕ → ℕ → Run
gap b c = record { first = b; count = c - b }

-- the runs of pages from b on that are in none of the spans, which rise from b on
abbrev pub gaps_from : ℕ → List Run → List Run
gaps_from b [] = if_some (gap b (2 ^ 34))
gaps_from b (r ∷ rs) = if_some (gap b r.first) ++ gaps_from (end r) rs

pub gaps_step : (made new all xs : List Run) (i b c : ℕ) (r : Run) → i < length xs → r ≡ get_or xs i r → new ≡ made ++ if_some (gap b r.first) → c ≡ end r → made ++ gaps_from b (drop i xs) ≡ all → new ++ gaps_from c (drop (i + 1) xs) ≡ all
gaps_step made new all xs i b c r l is n e h =
    let e1 : drop i xs ≡ r ∷ drop (i + 1) xs = drop_more xs i r l ∙ ap (λ x. x ∷ drop (i + 1) xs) (sym is) in
    ap (λ y. y ++ gaps_from c (drop (i + 1) xs)) n ∙ ap (λ m. (made ++ if_some (gap b r.first)) ++ gaps_from m (drop (i + 1) xs)) e
    ∙ append_assoc made (if_some (gap b r.first)) (gaps_from (end r) (drop (i + 1) xs)) ∙ ap (λ y. made ++ gaps_from b y) (sym e1) ∙ h

pub gaps_end : (made new all xs : List Run) (i b : ℕ) → length xs ≤ i → new ≡ made ++ if_some (gap b (2 ^ 34)) → made ++ gaps_from b (drop i xs) ≡ all → new ≡ all
gaps_end made new all xs i b l n h = n ∙ ap (λ y. made ++ gaps_from b y) (sym (drop_all i xs l)) ∙ h

last_gap : (b q : ℕ) → b ≤ 2 ^ 34 → in_span (gap b (2 ^ 34)) q ≡ (nat_le b q && (nat_lt q (2 ^ 34) && true))
last_gap b q h = grind (arith, nat_tests)

gap_below : (b f c q : ℕ) → b ≤ f → f + c ≤ 2 ^ 34 → q < f + c → ((nat_le b q && nat_lt q (b + (f - b))) || (nat_le (f + c) q && (nat_lt q (2 ^ 34) && true))) ≡ (nat_le b q && (nat_lt q (2 ^ 34) && not ((nat_le f q && nat_lt q (f + c)) || false)))
gap_below b f c q h k l = grind (arith, nat_tests)

gap_above : (b f c q : ℕ) (z : Bool) → b ≤ f → f + c ≤ 2 ^ 34 → f + c ≤ q → ((nat_le b q && nat_lt q (b + (f - b))) || (nat_le (f + c) q && (nat_lt q (2 ^ 34) && not z))) ≡ (nat_le b q && (nat_lt q (2 ^ 34) && not ((nat_le f q && nat_lt q (f + c)) || z)))
gap_above b f c q z h k l = grind (arith, nat_tests)

has_gaps : (b : ℕ) (rs : List Run) (q : ℕ) → AreApart b rs → b ≤ 2 ^ 34 → in_spans (gaps_from b rs) q ≡ (nat_le b q && (nat_lt q (2 ^ 34) && not (in_spans rs q)))
has_gaps b [] q a h = in_if_some (gap b (2 ^ 34)) q ∙ last_gap b q h
has_gaps b (r ∷ rs) q a h =
    has-append (if_some (gap b r.first)) (gaps_from (end r) rs) q
    ∙ ap (λ x. x || in_spans (gaps_from (end r) rs) q) (in_if_some (gap b r.first) q)
    ∙ ap (λ x. in_span (gap b r.first) q || x) (has_gaps (end r) rs q (apart_lower (end r + 1) (end r) rs (omega arith) a.3) a.2)
    ∙ elim (cases_lt q (end r)) [
      | inl l ↦ let none : in_spans rs q ≡ false = low_none (end r + 1) rs q a.3 (omega arith) in
          ap (λ z. in_span (gap b r.first) q || (nat_le (end r) q && (nat_lt q (2 ^ 34) && not z))) none ∙ gap_below b r.first r.count q a.0 a.2 l ∙ ap (λ z. nat_le b q && (nat_lt q (2 ^ 34) && not (in_span r q || z))) (sym none)
      | inr l ↦ gap_above b r.first r.count q (in_spans rs q) a.0 a.2 l
    ]

from_none : (q : ℕ) (z : Bool) → (nat_le 0 q && (nat_lt q (2 ^ 34) && z)) ≡ (nat_lt q (2 ^ 34) && z)
from_none q z = grind (arith, nat_tests)

pub in_gaps : (xs ys : List Run) (q : ℕ) → AreApart 0 xs → ys ≡ gaps_from 0 xs → in_spans ys q ≡ (nat_lt q (2 ^ 34) && not (in_spans xs q))
in_gaps xs ys q a e = ap (λ (zs : List Run). in_spans zs q) e ∙ has_gaps 0 xs q a (omega arith) ∙ from_none q (not (in_spans xs q))

apart_gaps : (b : ℕ) (rs : List Run) → AreApart b rs → b ≤ 2 ^ 34 → AreApart b (gaps_from b rs)
apart_gaps b [] a h =
    elim (cases_lt 0 (2 ^ 34 - b)) [ inl l ↦ rw (lt-ltb 0 (2 ^ 34 - b) l) (omega arith, l, omega arith, tt) | inr l ↦ rw (le-ltb 0 (2 ^ 34 - b) l) tt ]
apart_gaps b (r ∷ rs) a h =
    let ih : AreApart (end r) (gaps_from (end r) rs) = apart_gaps (end r) rs (apart_lower (end r + 1) (end r) rs (omega arith) a.3) a.2 in
    some_ahead b (gap b r.first) (gaps_from (end r) rs)
    (λ l. (omega arith, omega arith, apart_lower (end r) (end (gap b r.first) + 1) (gaps_from (end r) rs) (omega arith) ih))
    (λ l. apart_lower (end r) b (gaps_from (end r) rs) (omega arith) ih)

pub are_gaps_apart : (xs ys : List Run) → AreApart 0 xs → ys ≡ gaps_from 0 xs → AreApart 0 ys
are_gaps_apart xs ys a e = subst (λ (zs : List Run). AreApart 0 zs) (sym e) (apart_gaps 0 xs a (omega arith))

-- ---- the difference
less_below : (a b : Bool) → (true && not ((true && not a) || b)) ≡ (a && not b)
less_below true true = refl
less_below true false = refl
less_below false true = refl
less_below false false = refl

pub in_difference : (xs ys gs os fs : List Run) (q : ℕ) → AreApart 0 xs → in_spans gs q ≡ (nat_lt q (2 ^ 34) && not (in_spans xs q)) → in_spans os q ≡ in_spans (gs ++ ys) q → in_spans fs q ≡ (nat_lt q (2 ^ 34) && not (in_spans os q)) → in_spans fs q ≡ (in_spans xs q && not (in_spans ys q))
in_difference xs ys gs os fs q a g o f =
    f ∙ ap (λ z. nat_lt q (2 ^ 34) && not z) (o ∙ has-append gs ys q ∙ ap (λ z. z || in_spans ys q) g)
    ∙ elim (cases_lt q (2 ^ 34)) [
      | inl l ↦ ap (λ t. t && not ((t && not (in_spans xs q)) || in_spans ys q)) (lt-ltb q (2 ^ 34) l) ∙ less_below (in_spans xs q) (in_spans ys q)
      | inr l ↦ ap (λ t. t && not ((t && not (in_spans xs q)) || in_spans ys q)) (le-ltb q (2 ^ 34) l) ∙ sym (ap (λ z. z && not (in_spans ys q)) (none_above 0 xs q a l))
    ]
