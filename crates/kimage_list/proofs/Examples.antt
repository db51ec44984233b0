-- A load of one segment, page by page.
use Rattle.std.proofs.Common.{◌≡◌, ℕ, ◌+◌, ◌<◌, List, [], ◌∷◌, ◌++◌, Some, None, sym, ap, ◌∙◌, subst, arith}
use Rattle.kx_pages.specs.Lists.{Has}
use Rattle.kx_pages.specs.Spans.{Run, in_span, in_spans}
use Rattle.kimage_list.specs.Load.{Start, Move, page_entries}
use Rattle.kimage_list.specs.inner.Load.{pages_of, starts}
use Rattle.kimage_list.specs.inner.Writers.{History, Writer, StandsAt, IsAwaited, with_destination, with_source, destination_after, pages_from}
use Rattle.kimage_list.proofs.Spanned.{span_inside, has-from, from-above}
use Rattle.kimage_list.proofs.Segmented.{pages_of-page_entries, starts-page_entries, after-page_entries, page_entries-more}
use Rattle.kimage_list.proofs.Awaiting.{awaited_exactly}
use Rattle.kx_pages.proofs.Counting.{count-from_Has}
use Rattle.kx_pages.proofs.Spans.{inside}

-- the writer stands behind n pages of the one segment
pub record IsOneSegment (wanted : List Run) (first n : ℕ) (w : Writer) : Type 0 where
  pub load : History
  pub stands : StandsAt load w
  pub wanted_by : load.wanted ≡ wanted
  pub entries : load.entries ≡ Start first ∷ page_entries first n
  pub segments : load.segments ≡ 1

module _ (wanted : List Run) (first n : ℕ) (w : Writer) (k : IsOneSegment wanted first n w) where
  pub goes_to : w.destination ≡ Some (first + n)
  goes_to = k.stands.destination ∙ ap (destination_after None) k.entries ∙ after-page_entries first n

  pages_so_far : pages_of k.load.entries ≡ pages_from first n
  pages_so_far = ap pages_of k.entries ∙ pages_of-page_entries first n

  -- the next page is awaited
  pub next_awaited : (total : ℕ) → ((q : ℕ) → in_spans wanted q ≡ in_span (record { first = first; count = total }) q) → n < total → IsAwaited w (first + n)
  next_awaited total h l =
      (awaited_exactly k.load w k.stands (first + n)).1 (
        ap (λ rs. in_spans rs (first + n)) k.wanted_by ∙ h (first + n) ∙ inside (record { first = first; count = total }) (first + n) (omega arith) (omega (arith, l)),
        λ g. let one = count-from_Has (first + n) (pages_from first n) (subst (Has (first + n)) pages_so_far g) in omega (arith, one, from-above (first + n) first n (omega arith)),
      )

  -- and then the one behind it
  pub page_more : (bytes : List ℕ) (v : Writer) → StandsAt (with_source k.load (first + n) bytes) v → IsOneSegment wanted first (n + 1) v
  page_more bytes v s = record {
    load = with_source k.load (first + n) bytes;
    stands = s;
    wanted_by = k.wanted_by;
    entries = ap (λ es. es ++ Move (first + n) ∷ []) k.entries ∙ ap (λ es. Start first ∷ es) (sym (page_entries-more first n));
    segments = k.segments;
  }

  pub none_left : w.segments_left ≡ 0
  none_left = omega (arith, k.stands.segments_left, ap starts k.entries, starts-page_entries first n, k.segments)

  -- behind the last page none is awaited
  pub none_awaited : ((q : ℕ) → in_spans wanted q ≡ in_span (record { first = first; count = n }) q) → (d : ℕ) → IsAwaited w d → ⊥
  none_awaited h d a =
      let t = (awaited_exactly k.load w k.stands d).0 a in
      let i = span_inside (record { first = first; count = n }) d (sym (h d) ∙ sym (ap (λ rs. in_spans rs d) k.wanted_by) ∙ t.0) in
      t.1 (subst (Has d) (sym pages_so_far) (has-from d first n i.0 i.1))

-- the first step
pub one_begun : (h : History) (w : Writer) → StandsAt h w → h.entries ≡ [] → h.segments ≡ 1 → 0 < w.segments_left
one_begun h w s e n = omega (arith, s.segments_left, ap starts e, n)

pub one_started : (wanted : List Run) (h : History) (first : ℕ) (v : Writer) → h.wanted ≡ wanted → h.entries ≡ [] → h.segments ≡ 1 → StandsAt (with_destination h first) v → IsOneSegment wanted first 0 v
one_started wanted h first v w e n s = record {
  load = with_destination h first;
  stands = s;
  wanted_by = w;
  entries = ap (λ es. es ++ Start first ∷ []) e;
  segments = n;
}
