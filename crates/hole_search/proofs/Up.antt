-- The steps of the walk from the front.
use Rattle.std.proofs.Common.{◌≡◌, ℕ, ◌+◌, ◌*◌, ◌/◌, ◌<◌, ◌≤◌, true, false, Some, List, length, drop, max, sym, ◌∙◌, inl, inr, arith}
use Rattle.std.proofs.lemmas.Bool.{cases_lt, both_ways}
use Rattle.std.specs.List.{slice_get}
use Rattle.kx_pages.specs.Spans.{Run, end, in_spans, AreApart}
use Rattle.kx_pages.specs.inner.Spans.{IsMaximal}
use Rattle.hole_search.specs.declared.search.Wanted.{Wanted}
use Rattle.hole_search.specs.inner.Holes.{EachPage}
use Rattle.hole_search.specs.inner.Walk.{IsClear, ArePassed}
use Rattle.hole_search.proofs.Rising.{none_before, same_behind}
use Rattle.kx_pages.proofs.Spans.{inside}

-- ---- taken spans
pub still_passed : (rs : List Run) (i a b : ℕ) → ArePassed rs i a → a ≤ b → ArePassed rs i b
still_passed rs i a b p h = λ q k. p q (omega arith)

-- one more span is passed
pub one_passed : (rs : List Run) (i a b : ℕ) (r : Run) → ArePassed rs i a → i < length rs → slice_get rs i ≡ Some r → a ≤ b → 4096 * end r ≤ b → ArePassed rs (i + 1) b
one_passed rs i a b r p l g h k = λ q m. p q (omega arith) ∙ same_behind rs i r q l g (omega arith)

-- what is clear lies behind a span that begins before its end
pub clear_behind : (rs : List Run) (w : Wanted) (r : Run) (a x : ℕ) → 0 < w.size → IsMaximal rs r → 4096 * r.first < a + w.size → IsClear (in_spans rs) w x → a ≤ x → 4096 * end r ≤ x
clear_behind rs w r a x s m t f h =
    elim (cases_lt x (4096 * end r)) [
      | inl k ↦ let c = m.some in let q = max (x / 4096) r.first in
          absurd (both_ways (in_spans rs q) (f.clear q (omega arith) (omega arith)) (m.inside q (inside r q (omega arith) (omega arith))))
      | inr k ↦ k
    ]

pub clear_before : (rs : List Run) (i a size : ℕ) (r : Run) → 0 < size → AreApart 0 rs → ArePassed rs i a → i < length rs → slice_get rs i ≡ Some r → a + size ≤ 4096 * r.first → EachPage (λ q. in_spans rs q ≡ false) a size
clear_before rs i a size r s e p l g h = λ q k m. p q k ∙ none_before rs i r q e l g (omega arith)

-- ---- spans of RAM
-- what begins in span number i or later begins where this begins or later
pub from_room : (rs : List Run) (i : ℕ) (r : Run) (x : ℕ) → AreApart 0 rs → i < length rs → slice_get rs i ≡ Some r → in_spans (drop i rs) (x / 4096) ≡ true → 4096 * r.first ≤ x
from_room rs i r x a l g h =
    elim (cases_lt (x / 4096) r.first) [ inl k ↦ absurd (both_ways (in_spans (drop i rs) (x / 4096)) (none_before rs i r (x / 4096) a l g k) h) | inr k ↦ omega arith ]

-- what would pass the end of span number i begins in a later one
pub past_room : (rs : List Run) (i : ℕ) (r : Run) (a size x : ℕ) → 0 < size → i < length rs → slice_get rs i ≡ Some r → IsMaximal rs r → 4096 * end r < a + size → a ≤ x → EachPage (λ q. in_spans rs q ≡ true) x size → in_spans (drop i rs) (x / 4096) ≡ true → in_spans (drop (i + 1) rs) (x / 4096) ≡ true
past_room rs i r a size x s l g m t h f e =
    elim (cases_lt (x / 4096) (end r)) [
      | inl k ↦ absurd (both_ways (in_spans rs (end r)) m.behind (f (end r) (omega arith) (omega arith)))
      | inr k ↦ sym (same_behind rs i r (x / 4096) l g k) ∙ e
    ]
