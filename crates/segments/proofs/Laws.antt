-- What holds of segments that no rule refuses. Crates above cite these.
use Rattle.std.proofs.Common.{◌≡◌, ℕ, ◌+◌, ◌*◌, ◌/◌, ◌%◌, ◌^◌, ◌<◌, ◌≤◌, ◌++◌, List, [], ◌∷◌, length, Some, None, Bool, true, false, refl, sym, ap, ◌∙◌, ⊎_elim, arith}
use Rattle.std.specs.Prelude.{◌||◌, ◌==◌, not, nat_le, nat_lt}
use Rattle.std.specs.Option.{option_map, is_some}
use Rattle.std.specs.List.{position, AllByRecursion}
use Rattle.std.proofs.lemmas.Bool.{false≢true, or_parts, or_cases}
use Rattle.std.proofs.lemmas.Bool.Decides.{nat_tests}
use Rattle.std.proofs.lemmas.Option.{none-some}
use Rattle.kx_laws.proofs.Options.{some_of, none_left, none_right, map_none}
use Rattle.kx_pages.specs.Lists.{Has, Distinct}
use Rattle.kx_pages.specs.Bytes.{page_of}
use Rattle.kx_pages.proofs.Bytes.{page_of-take}
use Rattle.segments.specs.declared.fault.SegFault.{SegFault}
use Rattle.segments.specs.declared.fault.Kind.{Kind}
use Rattle.kx_pages.specs.Spans.{Run}
use Rattle.segments.specs.Values.{SegmentValue, stop, is_page_of_segment, is_destination, bytes_from, want, page_count, pages_of_segment, pages}
use Rattle.segments.specs.inner.Values.{wanted}
use Rattle.segments.specs.Rules.{where_true, at_first, is_bad_address, bad_address, overlap_each_other, overlap_after, overlap, is_too_full, too_full, bad_count, no_segments, too_many, too_large, shape_refusal, bare_refusal, refusal, half_of_memory, misplaced}
use Rattle.segments.specs.inner.Rules.{IsBare}
pub use Rattle.segments.specs.inner.Shape.{IsPlaced}
use Rattle.segments.specs.inner.Shape.{Apart, AreSegments}
use Rattle.std.proofs.lemmas.Grind.{flat_map-append}
use Rattle.kx_pages.proofs.Lists.{Each-map, Each-left, Each-right, Has-left, Has-right, Has-either, Has-range, range-Has, Each-from_no_first}
use Rattle.kx_pages.proofs.Counting.{Distinct-append, Distinct-range}

not_true : (b : Bool) (f : SegFault) → where_true b f ≡ None → b ≡ false
not_true true f e = absurd (none-some f (sym e))
not_true false f e = refl

none_fails : (test : SegmentValue → Bool) (fault : ℕ → SegFault) (ss : List SegmentValue) → at_first test fault ss ≡ None → AllByRecursion (λ s. test s ≡ false) ss
none_fails test fault ss e = Each-from_no_first test ss (map_none fault (position test ss) e)

good_address : (s : SegmentValue) → is_bad_address s ≡ false → IsPlaced s
good_address s e =
    let a = or_parts (not (s.mem % 4096 == 0) || not (stop s % 4096 == 0)) (nat_le (2 ^ 46) (stop s)) e in
    let b = or_parts (not (s.mem % 4096 == 0)) (not (stop s % 4096 == 0)) a.0 in
    let starts : s.mem % 4096 ≡ 0 = grind (arith, nat_tests) in
    let ends : stop s % 4096 ≡ 0 = grind (arith, nat_tests) in
    record { starts = starts; whole = omega (arith, starts, ends); below = grind (arith, nat_tests) }

-- no later segment overlaps one of the earlier ones
no_overlap : (earlier ss : List SegmentValue) → overlap_after earlier ss ≡ None → AllByRecursion (λ s. AllByRecursion (λ r. overlap_each_other s r ≡ false) earlier) ss × Apart ss
no_overlap earlier [] e = (tt, tt)
no_overlap earlier (s ∷ ss) e =
    let here = none_fails (overlap_each_other s) _ earlier (none_left _ (overlap_after (earlier ++ s ∷ []) ss) e) in
    let later = no_overlap (earlier ++ s ∷ []) ss (none_right (at_first (overlap_each_other s) _ earlier) _ e) in (
      (here, Each-map ss (λ t h. Each-left (λ r. overlap_each_other t r ≡ false) earlier (s ∷ []) h) later.0),
      (Each-map ss (λ t h. (Each-right (λ r. overlap_each_other t r ≡ false) earlier (s ∷ []) h).0) later.0, later.1),
    )

-- what it means that no rule refuses
pub AreSegments-from_IsBare : (ss : List SegmentValue) → IsBare ss → AreSegments ss
unfolding bare_refusal shape_refusal
AreSegments-from_IsBare ss e =
    let shape = none_left (shape_refusal ss) _ e in
    let size = none_left (too_large ss) None (none_right (shape_refusal ss) _ e) in
    let counted = none_left (bad_count ss) _ shape in
    let after_some = none_right (no_segments ss) _ counted in
    let after_many = none_right (bad_count ss) _ shape in
    let after_address = none_right (bad_address ss) _ after_many in
    let after_overlap = none_right (overlap ss) _ after_address in
    let is_some : (length ss == 0) ≡ false = not_true _ _ (none_left (no_segments ss) _ counted) in
    let is_few : nat_lt 16 (length ss) ≡ false = not_true _ _ (none_left (too_many ss) _ after_some) in
    let is_small : nat_lt 65536 (length (pages ss)) ≡ false = not_true _ _ size in
    record {
      some = grind (arith, nat_tests);
      few = grind (arith, nat_tests);
      placed = Each-map ss good_address (none_fails is_bad_address _ ss (none_left (bad_address ss) _ after_many));
      apart = (no_overlap [] ss (none_left (overlap ss) _ after_address)).1;
      fit = Each-map ss (λ s h. fits s h) (none_fails is_too_full _ ss (none_left (too_full ss) None after_overlap));
      small = grind (arith, nat_tests);
    }
  where
    fits : (s : SegmentValue) → is_too_full s ≡ false → length s.bytes ≤ s.memsz
    fits s h = grind (arith, nat_tests)

pub IsBare-from_refusal : (ram : List Run) (kind : Kind) (ss : List SegmentValue) → refusal ram kind ss ≡ None → IsBare ss
unfolding bare_refusal refusal
IsBare-from_refusal ram kind ss e =
    let shape = none_left (shape_refusal ss) _ e in
    let half = none_right (shape_refusal ss) _ e in
    let place = none_right (half_of_memory ram ss) _ half in
    let size = none_left (too_large ss) None (none_right (misplaced ram kind ss) _ place) in
    rw (shape, size) refl

-- a page of a segment, by its number
page_in_part : (s : SegmentValue) (p : ℕ) → IsPlaced s → is_page_of_segment s p ≡ true → (s.mem / 4096 ≤ p) × (p < s.mem / 4096 + page_count s)
page_in_part s p k e =
    let low : s.mem ≤ 4096 * p = grind (arith, nat_tests) in
    let high : 4096 * p < s.mem + s.memsz = grind (arith, nat_tests) in
    (omega (arith, low, k.starts), omega (arith, high, k.starts, k.whole))

part_has_page : (s : SegmentValue) (p : ℕ) → IsPlaced s → s.mem / 4096 ≤ p → p < s.mem / 4096 + page_count s → is_page_of_segment s p ≡ true
part_has_page s p k a b =
    let low : s.mem ≤ 4096 * p = omega (arith, a, k.starts) in
    let high : 4096 * p < s.mem + s.memsz = omega (arith, b, k.starts, k.whole) in
    grind (arith, nat_tests)

-- a page of the list is a destination, and the other way round
pub is_destination-from_Has : (ss : List SegmentValue) (p : ℕ) → AllByRecursion IsPlaced ss → Has p (pages ss) → is_destination ss p ≡ true
is_destination-from_Has [] p k h = absurd h
is_destination-from_Has (s ∷ ss) p k h = ⊎_elim
    (λ i. let r = Has-range (page_count s) (s.mem / 4096) p i in ap (λ b. b || is_destination ss p) (part_has_page s p k.0 r.0 r.1))
    (λ i. or_second (is_page_of_segment s p) (is_destination ss p) (is_destination-from_Has ss p k.1 i))
    (Has-either p (pages_of_segment s) (pages ss) h)
  where
    or_second : (a b : Bool) → b ≡ true → (a || b) ≡ true
    or_second true b e = refl
    or_second false b e = e

pub Has-from_is_destination : (ss : List SegmentValue) (p : ℕ) → AllByRecursion IsPlaced ss → is_destination ss p ≡ true → Has p (pages ss)
Has-from_is_destination [] p k e = absurd (false≢true e)
Has-from_is_destination (s ∷ ss) p k e = ⊎_elim
    (λ t. let r = page_in_part s p k.0 t in Has-left p (pages_of_segment s) (pages ss) (range-Has (page_count s) (s.mem / 4096) p r.0 r.1))
    (λ t. Has-right p (pages_of_segment s) (pages ss) (Has-from_is_destination ss p k.1 t))
    (or_cases (is_page_of_segment s p) (is_destination ss p) e)

-- a destination is a page that is to have something
pub is_some-want : (ss : List SegmentValue) (p : ℕ) → is_some (want ss p) ≡ is_destination ss p
is_some-want [] p = refl
is_some-want (s ∷ ss) p = go (is_page_of_segment s p) refl (is_some-want ss p)
  where
    go : (b : Bool) → is_page_of_segment s p ≡ b → is_some (want ss p) ≡ is_destination ss p → is_some (want (s ∷ ss) p) ≡ is_destination (s ∷ ss) p
    go true e ih = rw e refl
    go false e ih = rw e ih

-- what a page is to have, by the bytes before the zeros
pub want-wanted : (ss : List SegmentValue) (p : ℕ) → want ss p ≡ option_map page_of (wanted ss p)
want-wanted [] p = refl
want-wanted (s ∷ ss) p = go (is_page_of_segment s p) refl (want-wanted ss p)
  where
    go : (b : Bool) → is_page_of_segment s p ≡ b → want ss p ≡ option_map page_of (wanted ss p) → want (s ∷ ss) p ≡ option_map page_of (wanted (s ∷ ss) p)
    go true e ih = rw e (ap Some (sym (page_of-take (bytes_from s p))))
    go false e ih = rw e ih

-- a page of the list is to have something, and the other way round
pub want-from_Has : (ss : List SegmentValue) (p : ℕ) → AllByRecursion IsPlaced ss → Has p (pages ss) → (bytes : List ℕ) × (want ss p ≡ Some bytes)
want-from_Has ss p k h = some_of (want ss p) (is_some-want ss p ∙ is_destination-from_Has ss p k h)

pub Has-from_want : (ss : List SegmentValue) (p : ℕ) (bytes : List ℕ) → AllByRecursion IsPlaced ss → want ss p ≡ Some bytes → Has p (pages ss)
Has-from_want ss p bytes k e = Has-from_is_destination ss p k (sym (is_some-want ss p) ∙ ap is_some e)

-- each page is one
pub pages_below : (ss : List SegmentValue) (p : ℕ) → AllByRecursion IsPlaced ss → Has p (pages ss) → p < 2 ^ 34
pages_below [] p k h = absurd h
pages_below (s ∷ ss) p k h = ⊎_elim
    (λ i. let r = Has-range (page_count s) (s.mem / 4096) p i in omega (arith, r.1, k.0.starts, k.0.whole, k.0.below))
    (λ i. pages_below ss p k.1 i)
    (Has-either p (pages_of_segment s) (pages ss) h)

-- no page stands twice
pub Distinct-pages : (ss : List SegmentValue) → AllByRecursion IsPlaced ss → Apart ss → Distinct (pages ss)
Distinct-pages [] k a = tt
Distinct-pages (s ∷ ss) k a =
    Distinct-append (pages_of_segment s) (pages ss) (Distinct-range (page_count s) (s.mem / 4096)) (Distinct-pages ss k.1 a.1)
    (λ p i j. meet ss p k.1 a.0 (let r = Has-range (page_count s) (s.mem / 4096) p i in part_has_page s p k.0 r.0 r.1) (is_destination-from_Has ss p k.1 j))
  where
    both : (r : SegmentValue) (p : ℕ) → overlap_each_other r s ≡ false → is_page_of_segment s p ≡ true → is_page_of_segment r p ≡ true → ⊥
    both r p o e f = grind (arith, nat_tests)

    meet : (rs : List SegmentValue) (p : ℕ) → AllByRecursion IsPlaced rs → AllByRecursion (λ r. overlap_each_other r s ≡ false) rs → is_page_of_segment s p ≡ true → is_destination rs p ≡ true → ⊥
    meet [] p k o e f = absurd (false≢true f)
    meet (r ∷ rs) p k o e f = ⊎_elim (λ t. both r p o.0 e t) (λ t. meet rs p k.1 o.1 e t) (or_cases (is_page_of_segment r p) (is_destination rs p) f)

-- each address passes its test
pub addresses-from_IsBare : (ss : List SegmentValue) → IsBare ss → AllByRecursion (λ s. is_bad_address s ≡ false) ss
unfolding bare_refusal shape_refusal
addresses-from_IsBare ss e =
    let shape = none_left (shape_refusal ss) _ e in
    none_fails is_bad_address _ ss (none_left (bad_address ss) _ (none_right (bad_count ss) _ shape))

-- the pages of segments in two parts
pub pages-append : (ss ts : List SegmentValue) → pages (ss ++ ts) ≡ pages ss ++ pages ts
pages-append ss ts = flat_map-append pages_of_segment ss ts
