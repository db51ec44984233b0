-- The table and the digest are put among the bytes of the purgatory's segment.
use Rattle.std.proofs.Common.{◌≡◌, ℕ, zero, suc, ◌+◌, ◌-◌, ◌*◌, ◌≤◌, ◌++◌, List, [], ◌∷◌, Some, refl, sym, ap, ◌∙◌, inl, inr, ⊎_elim, arith, length, take, drop, set, length-drop, length-append, append_assoc, take-append-drop}
use Rattle.std.specs.Prelude.{slice_get, replicate}
use Rattle.std.specs.List.{flat_map}
use Rattle.std.proofs.Math.Seq.{drop-append-add}
use Rattle.std.proofs.lemmas.List.{drop-drop, length-replicate, length-take-le, take-append-le, drop-append-le}
use Rattle.sha2.proofs.Facts256.{length-sha256}
use Rattle.kx_fields.specs.Fields.{zeros, bytes_at, with_bytes}
use Rattle.kx_fields.specs.inner.Fields.{IsApart}
use Rattle.kx_fields.proofs.Fields.{bytes_back, length-with_bytes}
use Rattle.segments.specs.Values.{SegmentValue}
use Rattle.segments.specs.inner.Rules.{IsBare}
use Rattle.segments.proofs.Laws.{AreSegments-from_IsBare}
use Rattle.purgatory_link.specs.Regions.{others, row, region_table, digest}
use Rattle.purgatory_link.specs.inner.Tie.{HasRegions, HasPlaces, with_regions}
use Rattle.purgatory_link.proofs.Digesting.{length-rows}
use Rattle.purgatory_link.proofs.Tying.{few_others}
use Rattle.purgatory_link.proofs.Replacing.{others_stay, digest_stays}

-- bytes that are put leave those that are apart from them
window_stays : (b u at : ℕ) (these xs : List ℕ) → at + length these ≤ length xs → IsApart b u at (length these) → bytes_at b u (with_bytes at these xs) ≡ bytes_at b u xs
window_stays b u at these xs within (inl before) =
    let long = length-take-le at xs (omega arith) in
    let front = take at xs in
    let rest = these ++ drop (at + length these) xs in
    let far : b ≤ length front = omega (arith, long, before) in
    let left : u ≤ length (drop b front) = omega (arith, long, before, length-drop b front) in
    ap (take u) (drop-append-le b front rest far)
    ∙ take-append-le u (drop b front) rest left
    ∙ sym (take-append-le u (drop b front) (drop at xs) left)
    ∙ ap (take u) (sym (drop-append-le b front (drop at xs) far))
    ∙ ap (λ ys. take u (drop b ys)) (take-append-drop at xs)
window_stays b u at these xs within (inr behind) =
    let long = length-take-le at xs (omega arith) in
    let end = at + length these in
    let n = b - end in
    let front = take at xs ++ these in
    let size : length front ≡ end = length-append (take at xs) these ∙ ap (λ m. m + length these) long in
    let place : b ≡ length front + n = omega (arith, size) in
    let right : end + n ≡ b = omega arith in
    ap (take u)
    (ap (drop b) (sym (append_assoc (take at xs) these (drop end xs)))
    ∙ ap (λ m. drop m (front ++ drop end xs)) place
    ∙ drop-append-add front (drop end xs) n
    ∙ drop-drop n end xs
    ∙ ap (λ m. drop m xs) right)

pub length-table : (ss : List SegmentValue) → length ss ≤ 16 → length (region_table ss) ≡ 256
unfolding region_table zeros
length-table ss few = omega (arith, length-append (flat_map row ss) (replicate (256 - 16 * length ss) 0), length-rows ss, length-replicate {A = ℕ} (256 - 16 * length ss) 0)

pub length-digest : (ss : List SegmentValue) (g : ℕ) → length (digest ss g) ≡ 32
unfolding digest
length-digest ss g = length-sha256 _

set_there : (ss : List SegmentValue) (g : ℕ) (s t : SegmentValue) → slice_get ss g ≡ Some s → slice_get (set ss g t) g ≡ Some t
set_there [] g s t e = cc
set_there (x ∷ ss) zero s t e = refl
set_there (x ∷ ss) (suc g) s t e = set_there ss g s t e

pub regions_put : (ss : List SegmentValue) (g r t : ℕ) (s : SegmentValue) → IsBare ss → slice_get ss g ≡ Some s → HasPlaces s r t → HasRegions (set ss g (with_regions ss g s r t)) g (with_regions ss g s r t) r t
regions_put ss g r t s bare e has =
    let q = with_regions ss g s r t in
    let table = region_table (others ss g) in
    let sum = digest ss g in
    let a = r - s.mem in
    let b = t - s.mem in
    let wide = length-table (others ss g) (few_others ss g (AreSegments-from_IsBare ss bare).few) in
    let long = length-digest ss g in
    let first = with_bytes a table s.bytes in
    let inside : a + length table ≤ length s.bytes = omega (arith, wide, has.table_low, has.table_high) in
    let same : length first ≡ length s.bytes = length-with_bytes a table s.bytes inside in
    let within : b + length sum ≤ length first = omega (arith, long, same, has.digest_low, has.digest_high) in
    let whole : length q.bytes ≡ length s.bytes = length-with_bytes b sum first within ∙ same in
    let apart : IsApart a 256 b (length sum) = away a b long has in
    record {
      segment = set_there ss g s q e;
      table = window_stays a 256 b sum first within apart ∙ ap (λ n. bytes_at a n first) (sym wide) ∙ bytes_back a table s.bytes (omega (arith, inside)) ∙ sym (ap region_table (others_stay ss g q));
      digest = ap (λ n. bytes_at b n q.bytes) (sym long) ∙ bytes_back b sum first (omega (arith, within)) ∙ sym (digest_stays ss g s q bare e refl refl);
      table_low = has.table_low;
      table_high = omega (arith, whole, has.table_high);
      digest_low = has.digest_low;
      digest_high = omega (arith, whole, has.digest_high);
    }
  where
    away : (a b : ℕ) → length (digest ss g) ≡ 32 → HasPlaces s r t → IsApart (r - s.mem) 256 (t - s.mem) (length (digest ss g))
    away a b long has = ⊎_elim
        (λ l. inl (omega (arith, l, has.table_low, has.digest_low)))
        (λ l. inr (omega (arith, l, long, has.table_low, has.digest_low)))
        has.apart
