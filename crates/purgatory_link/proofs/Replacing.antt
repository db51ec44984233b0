-- A segment whose bytes are replaced: the other segments, their table and their digest stay.
use Rattle.std.proofs.Common.{◌≡◌, ℕ, zero, suc, ◌+◌, ◌*◌, ◌++◌, List, [], ◌∷◌, true, false, cond, Some, refl, sym, ap, ◌∙◌, subst, inl, inr, arith, take, drop, set}
use Rattle.std.specs.List.{AllByRecursion}
use Rattle.std.specs.Prelude.{slice_get, ◌&&◌, ◌||◌, nat_le, nat_lt, unwrap_or}
use Rattle.std.proofs.lemmas.Bool.{false_from_ne_true, false≢true, or_cases}
use Rattle.sha2.specs.Sha256.{sha256}
use Rattle.kx_pages.specs.Lists.{Has}
use Rattle.kx_pages.specs.Bytes.{Wants, page_of}
use Rattle.segments.specs.Values.{SegmentValue, is_page_of_segment, is_destination, bytes_from, want, pages, pages_of_segment}
use Rattle.segments.specs.Rules.{overlap_each_other}
use Rattle.segments.specs.inner.Rules.{IsBare}
use Rattle.kx_pages.proofs.Lists.{Has-either, Each-slice_get}
use Rattle.segments.specs.inner.Shape.{IsPlaced, Apart}
use Rattle.segments.proofs.Laws.{AreSegments-from_IsBare, is_destination-from_Has}
use Rattle.purgatory_link.specs.Regions.{others, wanted_bytes, digest}
use Rattle.purgatory_link.proofs.Standing.{one_page}

others_behind : (t : SegmentValue) (ss : List SegmentValue) (g : ℕ) → others (t ∷ ss) (suc g) ≡ t ∷ others ss g
others_behind t ss g =
    let next : suc g + 1 ≡ suc (g + 1) = omega arith in
    ap (λ m. take (suc g) (t ∷ ss) ++ drop m (t ∷ ss)) next

pub others_stay : (ss : List SegmentValue) (g : ℕ) (t : SegmentValue) → others (set ss g t) g ≡ others ss g
others_stay [] g t = refl
others_stay (s ∷ ss) zero t = refl
others_stay (s ∷ ss) (suc g) t = others_behind s (set ss g t) g ∙ ap (λ us. s ∷ us) (others_stay ss g t) ∙ sym (others_behind s ss g)

-- what is wanted of a page of another segment stays
want_stays : (ss : List SegmentValue) (g : ℕ) (s t : SegmentValue) (p : ℕ) → slice_get ss g ≡ Some s → t.mem ≡ s.mem → t.memsz ≡ s.memsz → is_page_of_segment s p ≡ false → want (set ss g t) p ≡ want ss p
want_stays [] g s t p e m z h = refl
want_stays (x ∷ ss) zero s t p e m z h =
    let same : x ≡ s = cc in
    let old : is_page_of_segment x p ≡ false = ap (λ y. is_page_of_segment y p) same ∙ h in
    let new : is_page_of_segment t p ≡ false = ap (λ a. nat_le a (4096 * p) && nat_lt (4096 * p) (a + t.memsz)) m ∙ ap (λ n. nat_le s.mem (4096 * p) && nat_lt (4096 * p) (s.mem + n)) z ∙ h in
    ap (λ b. cond b (Some (page_of (bytes_from t p))) (want ss p)) new ∙ sym (ap (λ b. cond b (Some (page_of (bytes_from x p))) (want ss p)) old)
want_stays (x ∷ ss) (suc g) s t p e m z h = ap (λ o. cond (is_page_of_segment x p) (Some (page_of (bytes_from x p))) o) (want_stays ss g s t p e m z h)

wanted_same : (W V : Wants) (ps : List ℕ) → ((p : ℕ) → Has p ps → W p ≡ V p) → wanted_bytes W ps ≡ wanted_bytes V ps
unfolding wanted_bytes
wanted_same W V [] h = refl
wanted_same W V (p ∷ ps) h = ap (λ o. unwrap_or o [] ++ wanted_bytes W ps) (h p (inl refl)) ∙ ap (λ ys. unwrap_or (V p) [] ++ ys) (wanted_same W V ps (λ q i. h q (inr i)))

-- a page of another segment is none of the segment
meets_none : (rs : List SegmentValue) (s : SegmentValue) (p : ℕ) → AllByRecursion (λ r. overlap_each_other r s ≡ false) rs → is_page_of_segment s p ≡ true → is_destination rs p ≡ true → ⊥
meets_none [] s p o e f = absurd (false≢true f)
meets_none (r ∷ rs) s p o e f = elim (or_cases (is_page_of_segment r p) (is_destination rs p) f) [ inl t ↦ one_page r s p o.0 e t | inr t ↦ meets_none rs s p o.1 e t ]

page_is : (s : SegmentValue) (p : ℕ) → IsPlaced s → Has p (pages_of_segment s) → is_page_of_segment s p ≡ true
page_is s p k i = is_destination_one (is_destination-from_Has (s ∷ []) p (k, tt) (one p (pages_of_segment s) i))
  where
    one : (p : ℕ) (ps : List ℕ) → Has p ps → Has p (ps ++ [])
    one p [] i = i
    one p (q ∷ ps) (inl e) = inl e
    one p (q ∷ ps) (inr i) = inr (one p ps i)

    is_destination_one : (is_page_of_segment s p || false) ≡ true → is_page_of_segment s p ≡ true
    is_destination_one h = elim (or_cases (is_page_of_segment s p) false h) [ inl t ↦ t | inr t ↦ absurd (false≢true t) ]

not_other : (ss : List SegmentValue) (g : ℕ) (s : SegmentValue) (p : ℕ) → AllByRecursion IsPlaced ss → Apart ss → slice_get ss g ≡ Some s → Has p (pages (others ss g)) → is_page_of_segment s p ≡ true → ⊥
not_other [] g s p k a e i h = cc
not_other (t ∷ ss) zero s p k a e i h =
    let same : s ≡ t = cc in
    meets_none ss t p a.0 (ap (λ x. is_page_of_segment x p) (sym same) ∙ h) (is_destination-from_Has ss p k.1 i)
not_other (t ∷ ss) (suc g) s p k a e i h =
    let j : Has p (pages (t ∷ others ss g)) = subst (λ us. Has p (pages us)) (others_behind t ss g) i in
    elim (Has-either p (pages_of_segment t) (pages (others ss g)) j) [
      | inl here ↦ one_page s t p (Each-slice_get (λ r. overlap_each_other r t ≡ false) ss g s a.0 e) (page_is t p k.0 here) h
      | inr later ↦ not_other ss g s p k.1 a.1 e later h
    ]

pub digest_stays : (ss : List SegmentValue) (g : ℕ) (s t : SegmentValue) → IsBare ss → slice_get ss g ≡ Some s → t.mem ≡ s.mem → t.memsz ≡ s.memsz → digest (set ss g t) g ≡ digest ss g
unfolding digest
digest_stays ss g s t bare e m z =
    let all = AreSegments-from_IsBare ss bare in
    ap (λ us. sha256 (wanted_bytes (want (set ss g t)) (pages us))) (others_stay ss g t)
    ∙ ap sha256 (wanted_same (want (set ss g t)) (want ss) (pages (others ss g)) (λ p i. want_stays ss g s t p e m z (false_from_ne_true (is_page_of_segment s p) (λ h. not_other ss g s p all.placed all.apart e i h))))
