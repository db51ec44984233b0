-- Which pages are in a span, and in spans that are apart; and counting by a test.
use Rattle.std.proofs.Common.{◌≡◌, ℕ, zero, suc, ◌+◌, ◌<◌, ◌≤◌, ◌^◌, Bool, true, false, List, [], ◌∷◌, refl, arith}
use Rattle.std.proofs.lemmas.Bool.Decides.{nat_tests}
use Rattle.std.proofs.lemmas.Bool.{or_from}
use Rattle.kx_pages.specs.Spans.{Run, end, in_span, in_spans, AreApart, passing}

pub inside : (r : Run) (q : ℕ) → r.first ≤ q → q < end r → in_span r q ≡ true
inside r q h k = grind (arith, nat_tests)

-- a page before a span, and one behind it
pub before_none : (r : Run) (q : ℕ) → q < r.first → in_span r q ≡ false
before_none r q h = grind (arith, nat_tests)

pub behind_none : (r : Run) (q : ℕ) → end r ≤ q → in_span r q ≡ false
behind_none r q h = grind (arith, nat_tests)

-- a page before all spans, and one behind the limit of all
pub low_none : (b : ℕ) (rs : List Run) (q : ℕ) → AreApart b rs → q < b → in_spans rs q ≡ false
low_none b [] q a h = refl
low_none b (r ∷ rs) q a h = or_from _ _ (before_none r q (omega arith)) (low_none (end r + 1) rs q a.3 (omega arith))

pub none_above : (b : ℕ) (rs : List Run) (q : ℕ) → AreApart b rs → 2 ^ 34 ≤ q → in_spans rs q ≡ false
none_above b [] q a h = refl
none_above b (r ∷ rs) q a h = or_from _ _ (behind_none r q (omega (arith, a.2, h))) (none_above (end r + 1) rs q a.3 h)

-- tests that are the same count the same
pub passing_same : (f g : ℕ → Bool) (n : ℕ) → ((q : ℕ) → f q ≡ g q) → passing f n ≡ passing g n
unfolding passing
passing_same f g zero h = refl
passing_same f g (suc n) h = rw (h n, passing_same f g n h) refl
