-- The steps of the walk from the back.
use Rattle.std.proofs.Common.{◌≡◌, ℕ, ◌+◌, ◌-◌, ◌*◌, ◌/◌, ◌<◌, ◌≤◌, true, false, Some, List, length, take, min, sym, ◌∙◌, inl, inr, arith}
use Rattle.std.proofs.lemmas.Bool.{cases_lt, both_ways}
use Rattle.std.specs.List.{slice_get}
use Rattle.kx_pages.specs.Spans.{Run, end, in_spans, AreApart}
use Rattle.kx_pages.specs.inner.Spans.{IsMaximal}
use Rattle.hole_search.specs.declared.search.Wanted.{Wanted}
use Rattle.hole_search.specs.inner.Holes.{EachPage}
use Rattle.hole_search.specs.inner.Walk.{IsClear, AreAhead}
use Rattle.hole_search.proofs.Rising.{none_behind, same_before}
use Rattle.kx_pages.proofs.Spans.{inside}

-- ---- taken spans
pub still_ahead : (rs : List Run) (n b c : ℕ) → AreAhead rs n b → c ≤ b → AreAhead rs n c
still_ahead rs n b c p h = λ q k. p q (omega arith)

-- one more span is passed
pub one_ahead : (rs : List Run) (n i b c : ℕ) (r : Run) → n ≡ i + 1 → AreAhead rs n b → i < length rs → slice_get rs i ≡ Some r → c ≤ b → c ≤ 4096 * r.first → AreAhead rs i c
one_ahead rs n i b c r s p l g h k = λ q m. p q (omega arith) ∙ same_before rs n i r q s l g (omega arith)

-- what is clear ends before a span that ends behind its start
pub clear_ahead : (rs : List Run) (w : Wanted) (r : Run) (a x : ℕ) → 0 < w.size → IsMaximal rs r → a < 4096 * end r → IsClear (in_spans rs) w x → x ≤ a → x + w.size ≤ 4096 * r.first
clear_ahead rs w r a x s m t f h =
    elim (cases_lt (4096 * r.first) (x + w.size)) [
      | inl k ↦ let c = m.some in let q = min ((x + w.size - 1) / 4096) (end r - 1) in
          absurd (both_ways (in_spans rs q) (f.clear q (omega arith) (omega arith)) (m.inside q (inside r q (omega arith) (omega arith))))
      | inr k ↦ k
    ]

pub clear_behind : (rs : List Run) (n i a size : ℕ) (r : Run) → n ≡ i + 1 → 0 < size → AreApart 0 rs → AreAhead rs n (a + size) → i < length rs → slice_get rs i ≡ Some r → 4096 * end r ≤ a → EachPage (λ q. in_spans rs q ≡ false) a size
clear_behind rs n i a size r t s e p l g h = λ q k m. p q (omega arith) ∙ none_behind rs n i r q t e l g (omega arith)

-- ---- spans of RAM
-- what ends in span number i or earlier ends where this ends or earlier
pub to_room : (rs : List Run) (n i : ℕ) (r : Run) (x size : ℕ) → n ≡ i + 1 → 0 < size → AreApart 0 rs → i < length rs → slice_get rs i ≡ Some r → in_spans (take n rs) ((x + size - 1) / 4096) ≡ true → x + size ≤ 4096 * end r
to_room rs n i r x size t s a l g h =
    elim (cases_lt ((x + size - 1) / 4096) (end r)) [ inl k ↦ omega arith | inr k ↦ absurd (both_ways (in_spans (take n rs) ((x + size - 1) / 4096)) (none_behind rs n i r _ t a l g k) h) ]

-- what would begin before span number i ends in an earlier one
pub below_room : (rs : List Run) (n i : ℕ) (r : Run) (a size x : ℕ) → n ≡ i + 1 → 0 < size → i < length rs → slice_get rs i ≡ Some r → IsMaximal rs r → a < 4096 * r.first → x ≤ a → EachPage (λ q. in_spans rs q ≡ true) x size → in_spans (take n rs) ((x + size - 1) / 4096) ≡ true → in_spans (take i rs) ((x + size - 1) / 4096) ≡ true
below_room rs n i r a size x u s l g m t h f e =
    elim (cases_lt ((x + size - 1) / 4096) r.first) [
      | inl k ↦ sym (same_before rs n i r _ u l g k) ∙ e
      | inr k ↦ absurd (both_ways (in_spans rs (r.first - 1)) (m.before (r.first - 1) (omega arith)) (f (r.first - 1) (omega arith) (omega arith)))
    ]
