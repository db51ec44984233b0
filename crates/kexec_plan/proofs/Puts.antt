-- The purgatory gets its table and its digest, and memory that has what is wanted of the segments passes the test.
use Rattle.std.proofs.Common.{◌≡◌, ℕ, ◌+◌, ◌-◌, ◌*◌, ◌/◌, ◌<◌, ◌≤◌, ◌++◌, List, [], ◌∷◌, Bool, true, false, Some, refl, sym, ap, ◌∙◌, subst, arith, length, drop, map, set}
use Rattle.std.specs.List.{AllByRecursion}
use Rattle.std.specs.Prelude.{◌⊎◌, slice_get}
use Rattle.std.proofs.lemmas.Bool.Decides.{nat_tests}
use Rattle.std.proofs.lemmas.List.{length-take}
use Rattle.kx_laws.proofs.Options.{some_same}
use Rattle.kx_pages.specs.Spans.{in_span, in_spans}
use Rattle.kx_pages.specs.declared.image.Start.{Start}
use Rattle.kx_fields.specs.Fields.{zeros, bytes_at, with_bytes}
use Rattle.kx_fields.specs.inner.Formats.{IsFormat}
use Rattle.kx_fields.proofs.Bytes.{length-zeros}
use Rattle.kx_fields.proofs.Fields.{length-with_bytes}
use Rattle.kx_fields.proofs.Formats.{length-written}
use Rattle.segments.specs.Values.{SegmentValue, is_page_of_segment, is_destination}
use Rattle.segments.specs.inner.Values.{span_of}
use Rattle.segments.specs.inner.Rules.{IsBare}
use Rattle.segments.proofs.Laws.{IsPlaced, AreSegments-from_IsBare}
use Rattle.segments.proofs.Alike.{Alike, has_pages_set}
use Rattle.purgatory_link.specs.declared.region_test.RegionTest.TheVariants as answers
use Rattle.purgatory_link.specs.Regions.{others, region_table, digest}
use Rattle.purgatory_link.specs.RegionTest.{test}
use Rattle.purgatory_link.specs.inner.Tie.{HasWanted, HasPlaces, with_regions}
use Rattle.purgatory_link.proofs.Standing.{same_where_wanted}
use Rattle.purgatory_link.proofs.Replacing.{others_stay, digest_stays}
use Rattle.purgatory_link.proofs.Placing.{regions_put}
use Rattle.kexec_plan.specs.declared.places.Site.{Site}
use Rattle.kexec_plan.specs.Parts.{segment_at}
use Rattle.kexec_plan.specs.Purgatory.{Linkage, registers, registers_text, arm}
use Rattle.kexec_plan.specs.inner.Purgatory.{HasSymbols}
use Rattle.kexec_plan.specs.Finish.{armed_segment}
use Rattle.kexec_plan.proofs.Last.{last_get, last_set}

-- ---- segments of which one gets other bytes, as many as it had
same_truth : (a b : Bool) → (a ≡ true → b ≡ true) → (b ≡ true → a ≡ true) → a ≡ b
same_truth true b f g = sym (f refl)
same_truth false true f g = g refl
same_truth false false f g = refl

span_has : (s : SegmentValue) (q : ℕ) → IsPlaced s → in_span (span_of s) q ≡ is_page_of_segment s q
span_has s q k = same_truth (in_span (span_of s) q) (is_page_of_segment s q) (λ e. there q k e) (λ e. back q k e)
  where
    there : (q : ℕ) → IsPlaced s → in_span (span_of s) q ≡ true → is_page_of_segment s q ≡ true
    there q k e =
        let a : s.mem / 4096 ≤ q = grind (arith, nat_tests) in
        let b : q < s.mem / 4096 + s.memsz / 4096 = grind (arith, nat_tests) in
        let low : s.mem ≤ 4096 * q = omega (arith, a, k.starts) in
        let high : 4096 * q < s.mem + s.memsz = omega (arith, b, k.starts, k.whole) in
        grind (arith, nat_tests)

    back : (q : ℕ) → IsPlaced s → is_page_of_segment s q ≡ true → in_span (span_of s) q ≡ true
    back q k e =
        let low : s.mem ≤ 4096 * q = grind (arith, nat_tests) in
        let high : 4096 * q < s.mem + s.memsz = grind (arith, nat_tests) in
        let a : s.mem / 4096 ≤ q = omega (arith, low, k.starts) in
        let b : q < s.mem / 4096 + s.memsz / 4096 = omega (arith, high, k.starts, k.whole) in
        grind (arith, nat_tests)

spans_have : (ss : List SegmentValue) (q : ℕ) → AllByRecursion IsPlaced ss → in_spans (map span_of ss) q ≡ is_destination ss q
spans_have [] q k = refl
spans_have (s ∷ ss) q k =
    let here = span_has s q k.0 in
    let later = spans_have ss q k.1 in
    rw (here, later) refl

pub bare_set : (ss : List SegmentValue) (g : ℕ) (s : SegmentValue) (bytes : List ℕ) → IsBare ss → slice_get ss g ≡ Some s → length bytes ≡ length s.bytes → IsBare (set ss g (record s { bytes = bytes }))
bare_set ss g s bytes bare e l =
    let placed = (AreSegments-from_IsBare ss bare).placed in
    (has_pages_set ss (map span_of ss) g (record s { bytes = bytes })
    (record { bare = bare; pages = λ q. spans_have ss q placed })
    (λ x h. alike x (some_same x s (sym h ∙ e)))).bare
  where
    alike : (x : SegmentValue) → x ≡ s → Alike x (record s { bytes = bytes })
    alike x same = record {
      mem = ap (λ y. y.mem) same;
      memsz = ap (λ y. y.memsz) same;
      long = ap (λ y. length y.bytes) same ∙ sym l;
    }

-- ---- the lengths of what a purgatory gets
registers_is : IsFormat 136 registers
registers_is = record { numbered = λ at fits. refl; whole = λ at fits. refl; apart = refl }

length-registers : (start : Start) → length (registers_text start) ≡ 136
unfolding registers_text
length-registers start = length-written 136 registers start (zeros 136) registers_is (length-zeros 136)

-- so many bytes of some
few_at : (a n : ℕ) (xs ys : List ℕ) → bytes_at a n xs ≡ ys → length ys ≤ n
few_at a n xs ys e = omega (arith, length-take n (drop a xs), ap length e)

-- the linked bytes with the registers
abbrev pub with_registers : Linkage → Start → List ℕ
with_registers l start = with_bytes (l.symbols.regs - l.base) (registers_text start) l.bytes

pub length-put : (base at n : ℕ) (these xs : List ℕ) → length these ≤ n → base ≤ at → at + n ≤ base + length xs → length (with_bytes (at - base) these xs) ≡ length xs
length-put base at n these xs long from to = length-with_bytes (at - base) these xs (omega (arith, long, from, to))

pub length-with_registers : (l : Linkage) (start : Start) → HasSymbols l.base (length l.bytes) l.symbols → length (with_registers l start) ≡ length l.bytes
length-with_registers l start h = length-put l.base l.symbols.regs 136 (registers_text start) l.bytes (omega (arith, length-registers start)) h.regs_from h.regs_to

-- ---- the purgatory's segment, the last one, gets its table and its digest
pub set_last : (ss : List SegmentValue) (x y : SegmentValue) → set (ss ++ x ∷ []) (length ss) y ≡ ss ++ y ∷ []
set_last ss x y = last_set ss x y (length ss) refl

pub get_last : (ss : List SegmentValue) (x : SegmentValue) → slice_get (ss ++ x ∷ []) (length ss) ≡ Some x
get_last ss x = last_get ss x (length ss) refl

places_in : (l : Linkage) (start : Start) (s : Site) → l.base ≡ s.at → HasSymbols l.base (length l.bytes) l.symbols → (l.symbols.regions + 256 ≤ l.symbols.digest) ⊎ (l.symbols.digest + 32 ≤ l.symbols.regions) → HasPlaces (segment_at s (with_registers l start)) l.symbols.regions l.symbols.digest
places_in l start s b h apart =
    let long = length-with_registers l start h in
    record {
      table_low = omega (arith, b, h.regions_from);
      table_high = omega (arith, b, long, h.regions_to);
      digest_low = omega (arith, b, h.digest_from);
      digest_high = omega (arith, b, long, h.digest_to);
      apart = apart;
    }

-- the list that ends with it is bare too
bare_put : (ss : List SegmentValue) (g r t : ℕ) (s : SegmentValue) → IsBare ss → slice_get ss g ≡ Some s → HasPlaces s r t → IsBare (set ss g (with_regions ss g s r t))
bare_put ss g r t s bare e has =
    let q = with_regions ss g s r t in
    let put = regions_put ss g r t s bare e has in
    let table = region_table (others ss g) in
    let wide : length table ≤ 256 = subst (λ (us : List SegmentValue). length (region_table us) ≤ 256) (others_stay ss g q) (few_at (r - s.mem) 256 q.bytes (region_table (others (set ss g q) g)) put.table) in
    let long : length (digest ss g) ≤ 32 = subst (λ (d : List ℕ). length d ≤ 32) (digest_stays ss g s q bare e refl refl) (few_at (t - s.mem) 32 q.bytes (digest (set ss g q) g) put.digest) in
    let first = length-put s.mem r 256 table s.bytes wide has.table_low has.table_high in
    let second = length-put s.mem t 32 (digest ss g) (with_bytes (r - s.mem) table s.bytes) long has.digest_low (omega (arith, first, has.digest_high)) in
    bare_set ss g s q.bytes bare e (second ∙ first)

-- it is the segment of the plan
put_is_armed : (l : Linkage) (start : Start) (ss : List SegmentValue) (s : Site) → l.base ≡ s.at → IsBare (ss ++ segment_at s l.bytes ∷ []) → with_regions (ss ++ segment_at s (with_registers l start) ∷ []) (length ss) (segment_at s (with_registers l start)) l.symbols.regions l.symbols.digest ≡ armed_segment l start ss s
unfolding arm
put_is_armed l start ss s b bare =
    let old = segment_at s l.bytes in
    let new = segment_at s (with_registers l start) in
    let before = ss ++ old ∷ [] in
    let behind = ss ++ new ∷ [] in
    let r = l.symbols.regions in
    let t = l.symbols.digest in
    let is = set_last ss old new in
    let table : region_table (others behind (length ss)) ≡ region_table (others before (length ss)) =
    ap region_table (ap (λ xs. others xs (length ss)) (sym is) ∙ others_stay before (length ss) new) in
    let sum : digest behind (length ss) ≡ digest before (length ss) =
    ap (λ xs. digest xs (length ss)) (sym is) ∙ digest_stays before (length ss) old new bare (get_last ss old) refl refl in
    ap (λ a. segment_at s (with_bytes (t - a) (digest behind (length ss)) (with_bytes (r - a) (region_table (others behind (length ss))) new.bytes))) (sym b)
    ∙ ap (λ d. segment_at s (with_bytes (t - l.base) d (with_bytes (r - l.base) (region_table (others behind (length ss))) new.bytes))) sum
    ∙ ap (λ x. segment_at s (with_bytes (t - l.base) (digest before (length ss)) (with_bytes (r - l.base) x new.bytes))) table

-- where memory has what is wanted of these segments, the test is passed
pub armed_passes : (l : Linkage) (start : Start) (ss : List SegmentValue) (s : Site) (M : ℕ → List ℕ) → l.base ≡ s.at → HasSymbols l.base (length l.bytes) l.symbols → IsBare (ss ++ segment_at s l.bytes ∷ []) → (l.symbols.regions + 256 ≤ l.symbols.digest) ⊎ (l.symbols.digest + 32 ≤ l.symbols.regions) → HasWanted M (ss ++ armed_segment l start ss s ∷ []) → test M l.symbols.regions l.symbols.digest ≡ answers.Same
armed_passes l start ss s M b h bare apart wanted =
    let new = segment_at s (with_registers l start) in
    let g = length ss in
    let r = l.symbols.regions in
    let t = l.symbols.digest in
    let list = ss ++ new ∷ [] in
    let q = with_regions list g new r t in
    let bare1 : IsBare list = subst IsBare (set_last ss (segment_at s l.bytes) new) (bare_set (ss ++ segment_at s l.bytes ∷ []) g (segment_at s l.bytes) (with_registers l start) bare (get_last ss (segment_at s l.bytes)) (length-with_registers l start h)) in
    let places = places_in l start s b h apart in
    let is : set list g q ≡ ss ++ armed_segment l start ss s ∷ [] = set_last ss new q ∙ ap (λ x. ss ++ x ∷ []) (put_is_armed l start ss s b bare) in
    same_where_wanted M (set list g q) g r t q (bare_put list g r t new bare1 (get_last ss new) places) (regions_put list g r t new bare1 (get_last ss new) places) (subst (HasWanted M) (sym is) wanted)
