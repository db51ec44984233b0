-- Putting pages in their place, one after another.
use Rattle.std.proofs.Common.{◌≡◌, ℕ, zero, suc, ◌+◌, ◌<◌, ◌≤◌, ◌++◌, List, [], ◌∷◌, Option, Some, None, Bool, true, false, refl, sym, ap, ◌∙◌, subst, inl, inr, ⊎_elim, arith, length, take, append_assoc, append-nil}
use Rattle.std.specs.Prelude.{◌⊎◌, ◌||◌, All, Result, Ok, Err, OnOk, IsTrue, IsSome, is_some, unwrap_or, slice_get}
use Rattle.std.specs.List.{range_with_len, AllByRecursion}
use Rattle.std.proofs.lemmas.Bool.{false≢true, or_cases}
use Rattle.std.proofs.lemmas.Bool.Decides.{nat_tests, eqb_tells}
use Rattle.std.proofs.lemmas.Option.{none-some, slice_get-get_or}
use Rattle.std.proofs.lemmas.List.Folds.{Any-from_list_any}
use Rattle.kx_pages.specs.Spans.{Run, in_span, in_spans}
use Rattle.kx_pages.specs.inner.Spans.{IsMaximal}
use Rattle.kx_pages.specs.Lists.{Has}
use Rattle.kx_pages.proofs.Lists.{Each-at, Each-from_All, Has-left, Has-right, Has-either, Has-range, range-Has}
use Rattle.kx_pages.specs.Bytes.{Mem}
use Rattle.page_memory.specs.Contents.{Contents, at}
use Rattle.page_memory.specs.inner.Contents.{IsHeld, after_set}
use Rattle.page_memory.proofs.Laws.{frame_at-insert_same, frame_at-insert_other, held-insert_only}
use Rattle.segments.specs.Values.{SegmentValue, want, overlay}
use Rattle.kx_laws.proofs.Options.{some_same}
use Rattle.load_states.specs.inner.Laying.{Lays, pages_of_spans}

pub lays_more : (S : List SegmentValue) (M N L : Mem) → Lays S M N → Lays S N L → Lays S M L
lays_more S M N L h k q = ⊎_elim
    (λ e. ⊎_elim (λ f. inl (e ∙ f)) (λ w. inr (w ∙ ap Some (sym e))) (h q))
    (λ w. inr w)
    (k q)

pub right_stays : (S : List SegmentValue) (N L : Mem) (p : ℕ) → Lays S N L → want S p ≡ Some (N p) → want S p ≡ Some (L p)
right_stays S N L p k w = ⊎_elim (λ e. w ∙ ap Some (sym e)) (λ v. v) (k p)

-- one page was set to what it is to have
pub lays_page : (S : List SegmentValue) (m : Contents) (p : ℕ) (bytes : List ℕ) → Some bytes ≡ want S p → Lays S (at m) (at (after_set m p bytes))
lays_page S m p bytes w q = ⊎_elim
    (λ t. inr (ap (want S) t.1 ∙ sym w ∙ ap Some (sym (ap (at (after_set m p bytes)) t.1 ∙ frame_at-insert_same m.pages p bytes))))
    (λ t. inl (frame_at-insert_other m.pages p bytes q t.1))
    (eqb_tells q p)

pub right_page : (S : List SegmentValue) (m : Contents) (p : ℕ) (bytes : List ℕ) → Some bytes ≡ want S p → want S p ≡ Some (at (after_set m p bytes) p)
right_page S m p bytes w = sym w ∙ ap Some (sym (frame_at-insert_same m.pages p bytes))

-- a page of the set is in a span
pub span_of : (rs : List Run) (p : ℕ) → IsTrue (in_spans rs p) → (k : ℕ) × (r : Run) × (k < length rs) × (slice_get rs k ≡ Some r) × (r.first ≤ p) × (p < r.first + r.count)
span_of rs p t =
    let w = Any-from_list_any (λ r. in_span r p) rs t in
    let r : Run = w.1 in
    let here : in_span r p ≡ true = w.4 in
    (w.0, r, w.2, slice_get-get_or rs w.0 r w.2 ∙ ap Some w.3, grind (arith, nat_tests), grind (arith, nat_tests))

pub in_set : (rs : List Run) (r : Run) (p : ℕ) → IsMaximal rs r → r.first ≤ p → p < r.first + r.count → IsTrue (in_spans rs p)
in_set rs r p m a b = let here : in_span r p ≡ true = grind (arith, nat_tests) in m.inside p here

-- for each of the spans so far, and the next one
pub next_span : (P : Run → Type 0) (rs : List Run) (i : ℕ) (s : Run) → slice_get rs i ≡ Some s → P s → ((k : ℕ) → k < i → (r : Run) → slice_get rs k ≡ Some r → P r) → (k : ℕ) → k < i + 1 → (r : Run) → slice_get rs k ≡ Some r → P r
next_span P rs i s at here before k l r e = ⊎_elim
    (λ h. before k h r e)
    (λ h. subst P (some_same s r (sym at ∙ ap (slice_get rs) (sym h) ∙ e)) here)
    (last k i l)
  where
    last : (k i : ℕ) → k < i + 1 → (k < i) ⊎ (k ≡ i)
    last k i h = grind arith

-- all pages of the segments are in their place
pub laid_overlay : (S : List SegmentValue) (M N : Mem) → Lays S M N → ((p : ℕ) → IsSome (want S p) → want S p ≡ Some (N p)) → (p : ℕ) → N p ≡ overlay M (want S) p
laid_overlay S M N h right p = go (want S p) refl
  where
    go : (o : Option (List ℕ)) → want S p ≡ o → N p ≡ overlay M (want S) p
    go (Some b) e = sym (ap (λ o. unwrap_or o (M p)) (right p (ap is_some e)))
    go None e = ⊎_elim (λ s. s ∙ sym (ap (λ o. unwrap_or o (M p)) e)) (λ w. absurd (none-some (N p) (sym e ∙ w))) (h p)

-- the pages of the spans so far, and of the next one
pages_next : (rs : List Run) (i : ℕ) (r : Run) → slice_get rs i ≡ Some r → pages_of_spans (take (suc i) rs) ≡ pages_of_spans (take i rs) ++ range_with_len r.first r.count
pages_next [] i r e = absurd (none-some r e)
pages_next (s ∷ rs) zero r e = append-nil (range_with_len s.first s.count) ∙ ap (λ (r : Run). range_with_len r.first r.count) (some_same s r e)
pages_next (s ∷ rs) (suc i) r e =
    ap (λ ps. range_with_len s.first s.count ++ ps) (pages_next rs i r e)
    ∙ sym (append_assoc (range_with_len s.first s.count) (pages_of_spans (take i rs)) (range_with_len r.first r.count))

pub pages_more : (rs : List Run) (i : ℕ) (r : Run) → slice_get rs i ≡ Some r → pages_of_spans (take (i + 1) rs) ≡ pages_of_spans (take i rs) ++ range_with_len r.first r.count
pages_more rs i r e = let next : i + 1 ≡ suc i = omega arith in ap (λ n. pages_of_spans (take n rs)) next ∙ pages_next rs i r e

-- they are the pages of the set
pub set-from_pages : (rs : List Run) (p : ℕ) → Has p (pages_of_spans rs) → in_spans rs p ≡ true
set-from_pages [] p h = absurd h
set-from_pages (r ∷ rs) p h = ⊎_elim
    (λ i.
    let k = Has-range r.count r.first p i in
    let here : in_span r p ≡ true = grind (arith, nat_tests) in
    ap (λ b. b || in_spans rs p) here)
    (λ i. or_second (in_span r p) (in_spans rs p) (set-from_pages rs p i))
    (Has-either p (range_with_len r.first r.count) (pages_of_spans rs) h)
  where
    or_second : (a b : Bool) → b ≡ true → (a || b) ≡ true
    or_second true b e = refl
    or_second false b e = e

pub pages-from_set : (rs : List Run) (p : ℕ) → in_spans rs p ≡ true → Has p (pages_of_spans rs)
pages-from_set [] p e = absurd (false≢true e)
pages-from_set (r ∷ rs) p e = ⊎_elim
    (λ t.
    let low : r.first ≤ p = grind (arith, nat_tests) in
    let high : p < r.first + r.count = grind (arith, nat_tests) in
    Has-left p (range_with_len r.first r.count) (pages_of_spans rs) (range-Has r.count r.first p low high))
    (λ t. Has-right p (range_with_len r.first r.count) (pages_of_spans rs) (pages-from_set rs p t))
    (or_cases (in_span r p) (in_spans rs p) e)

pub all_held : {T E : Type 0} (r : Result T E) (rs : List Run) (m : Contents) (pages : List ℕ) → pages ≡ pages_of_spans rs → OnOk r (All (λ p. IsHeld m p) pages) → OnOk r ((p : ℕ) → IsTrue (in_spans rs p) → IsHeld m p)
all_held (Err e) rs m pages same h = h
all_held (Ok x) rs m pages same h = λ p t. Each-at (λ p. IsHeld m p) (pages_of_spans rs) p (subst (AllByRecursion (λ p. IsHeld m p)) same (Each-from_All (λ p. IsHeld m p) pages h)) (pages-from_set rs p t)

-- a held page that is set: no other comes to be held
pub set_holds : (m : Contents) (p : ℕ) (bytes : List ℕ) (q : ℕ) → IsHeld m p → IsHeld (after_set m p bytes) q → IsHeld m q
set_holds m p bytes q here h = ⊎_elim (λ x. x) (λ e. subst (IsHeld m) (sym e) here) (held-insert_only m.pages p bytes q h)
