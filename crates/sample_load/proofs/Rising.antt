-- No rule refuses the segments of a sample, and a load of them takes no more pages than its pool has.
use Rattle.std.proofs.Common.{◌≡◌, ℕ, zero, suc, ◌+◌, ◌-◌, ◌*◌, ◌/◌, ◌%◌, ◌^◌, ◌<◌, ◌≤◌, ◌++◌, List, [], ◌∷◌, length, Option, Some, None, Bool, false, refl, sym, ap, ◌∙◌, subst, arith, inl, inr, length-append, append_assoc}
use Rattle.std.specs.Prelude.{◌==◌, cond, nat_lt}
use Rattle.std.specs.Option.{option_map}
use Rattle.std.specs.List.{position_or_len, AllByRecursion}
use Rattle.std.proofs.lemmas.Bool.Decides.{nat_tests}
use Rattle.std.proofs.lemmas.List.FromFn.{length-range_with_len, length-map-range_with_len, map-range_with_len_more}
use Rattle.std.proofs.lemmas.Option.{none-some}
use Rattle.kx_pages.proofs.Lists.{Each-map, Each-append}
use Rattle.kx_pages.specs.declared.image.Wish.TheVariants.{Plain}
use Rattle.segments.specs.declared.fault.SegFault.{SegFault}
use Rattle.segments.specs.declared.fault.SegFault.TheVariants as faults
use Rattle.segments.specs.Values.{SegmentValue, stop, page_count, pages_of_segment, pages, need}
use Rattle.segments.specs.Rules.{where_true, at_first, is_bad_address, bad_address, overlap_each_other, overlap_after, overlap, is_too_full, too_full, bad_count, too_large, shape_refusal, bare_refusal}
use Rattle.segments.specs.inner.Rules.{IsBare, Refuses}
use Rattle.sample_load.specs.declared.drawn_segments.Shape.{Shape}
use Rattle.sample_load.specs.Draws.{next_state, draw_from}
use Rattle.sample_load.specs.DrawnSegments.{shape_of, second_state, third_state, byte_of, bytes_of, segment_of, page_behind, segments_from}
use Rattle.sample_load.specs.Samples.{sample_segments}

-- a segment of at most 512 whole pages, which begins within 63 pages of an address
pub record IsNext (low : ℕ) (s : SegmentValue) : Type 0 where
  pub above : low ≤ s.mem
  pub near : s.mem ≤ low + 258048
  pub starts : s.mem % 4096 ≡ 0
  pub whole : s.memsz % 4096 ≡ 0
  pub small : s.memsz ≤ 2097152
  pub fits : length s.bytes ≤ s.memsz

-- each behind the one before
abbrev pub AreRising : ℕ → List SegmentValue → Type 0
AreRising low [] = Unit {0}
AreRising low (s ∷ ss) = IsNext low s × AreRising (stop s) ss

-- what is true of each is true of each in its place
each_of : (P : SegmentValue → Type 0) (low : ℕ) (ss : List SegmentValue) → ((low : ℕ) (s : SegmentValue) → IsNext low s → P s) → AreRising low ss → AllByRecursion P ss
each_of P low [] f h = tt
each_of P low (s ∷ ss) f h = (f low s h.0, each_of P (stop s) ss f h.1)

-- where they end
ends : (low : ℕ) (ss : List SegmentValue) → AreRising low ss → AllByRecursion (λ s. stop s ≤ low + 2355200 * length ss) ss
ends low [] h = tt
ends low (s ∷ ss) h =
    let here : stop s ≤ low + 2355200 = omega (arith, h.0.near, h.0.small) in
    (omega (arith, here), Each-map ss (λ t l. further (stop t) (stop s) low (length ss) l here) (ends (stop s) ss h.1))
  where
    further : (t e low n : ℕ) → t ≤ e + 2355200 * n → e ≤ low + 2355200 → t ≤ low + 2355200 * suc n
    further t e low n a b = omega (arith, a, b)

where_false : (b : Bool) (f : SegFault) → b ≡ false → where_true b f ≡ None
where_false b f e = rw e refl

none_passes : (p : SegmentValue → Bool) (ss : List SegmentValue) → AllByRecursion (λ s. p s ≡ false) ss → position_or_len p ss ≡ length ss
none_passes p [] h = refl
none_passes p (s ∷ ss) h =
    let one : 1 + length ss ≡ suc (length ss) = omega arith in
    rw (h.0, none_passes p ss h.1) one

no_position : (n m : ℕ) → n ≡ m → ◌≡◌ {A = Option ℕ} (cond (nat_lt n m) (Some n) None) None
no_position n m e =
    let past : nat_lt n m ≡ false = grind (arith, nat_tests) in
    rw past refl

none_found : (test : SegmentValue → Bool) (fault : ℕ → SegFault) (ss : List SegmentValue) → AllByRecursion (λ s. test s ≡ false) ss → at_first test fault ss ≡ None
none_found test fault ss h = ap (option_map fault) (no_position _ _ (none_passes test ss h))

good_address : (s : SegmentValue) (low : ℕ) → IsNext low s → stop s < 2 ^ 46 → is_bad_address s ≡ false
good_address s low h below =
    let starts = h.starts in
    let ends : stop s % 4096 ≡ 0 = omega (arith, h.starts, h.whole) in
    grind (arith, nat_tests)

apart : (s r : SegmentValue) → stop r ≤ s.mem → overlap_each_other s r ≡ false
apart s r behind = grind (arith, nat_tests)

no_overlap : (earlier : List SegmentValue) (low : ℕ) (ss : List SegmentValue) → AllByRecursion (λ r. stop r ≤ low) earlier → AreRising low ss → overlap_after earlier ss ≡ None
no_overlap earlier low [] b h = refl
no_overlap earlier low (s ∷ ss) b h =
    let here = none_found (overlap_each_other s) (faults.Overlap (length earlier)) earlier (Each-map earlier (λ r l. apart s r (omega (arith, l, h.0.above))) b) in
    let behind : AllByRecursion (λ r. stop r ≤ stop s) earlier = Each-map earlier (λ r l. omega (arith, l, h.0.above)) b in
    let later = no_overlap (earlier ++ s ∷ []) (stop s) ss (Each-append (λ r. stop r ≤ stop s) earlier (s ∷ []) behind (omega arith, tt)) h.1 in
    rw here later

fits : (low : ℕ) (s : SegmentValue) → IsNext low s → is_too_full s ≡ false
fits low s h =
    let f = h.fits in
    grind (arith, nat_tests)

few_pages : (low : ℕ) (ss : List SegmentValue) → AreRising low ss → length (pages ss) ≤ 512 * length ss
few_pages low [] h = omega arith
few_pages low (s ∷ ss) h =
    let here : page_count s ≤ 512 = omega (arith, h.0.small) in
    omega (arith, length-append (pages_of_segment s) (pages ss), length-range_with_len (s.mem / 4096) (page_count s), here, few_pages (stop s) ss h.1)

addresses : (low : ℕ) (ss : List SegmentValue) → AreRising low ss → AllByRecursion (λ s. stop s < 2 ^ 46) ss → AllByRecursion (λ s. is_bad_address s ≡ false) ss
addresses low [] h b = tt
addresses low (s ∷ ss) h b = (good_address s low h.0 b.0, addresses (stop s) ss h.1 b.1)

-- no rule refuses one to sixteen such segments
bare : (low : ℕ) (ss : List SegmentValue) → low < 2 ^ 32 → 0 < length ss → length ss ≤ 16 → AreRising low ss → IsBare ss
unfolding bare_refusal shape_refusal
bare low ss start some few h =
    let n = length ss in
    let filled : (n == 0) ≡ false = grind (arith, nat_tests) in
    let not_many : nat_lt 16 n ≡ false = grind (arith, nat_tests) in
    let pages_few = few_pages low ss h in
    let not_large : nat_lt 65536 (length (pages ss)) ≡ false = grind (arith, nat_tests) in
    let below : AllByRecursion (λ s. stop s < 2 ^ 46) ss = Each-map ss (λ s l. omega (arith, l, start, few)) (ends low ss h) in
    let counted : bad_count ss ≡ None = rw (filled, not_many) refl in
    let address : bad_address ss ≡ None = none_found is_bad_address faults.BadAddress ss (addresses low ss h below) in
    let over : overlap ss ≡ None = no_overlap [] low ss tt h in
    let full : too_full ss ≡ None = none_found is_too_full faults.TooFull ss (each_of (λ s. is_too_full s ≡ false) low ss fits h) in
    let size : too_large ss ≡ None = where_false _ _ not_large in
    let shape : shape_refusal ss ≡ None = rw (counted, address, over, full) refl in
    rw (shape, size) refl

-- a segment of a shape that was drawn
next_of : (i next : ℕ) (s : Shape) → s.gap < 64 → s.count ≤ 512 → IsNext (4096 * next) (segment_of i next s)
next_of i next s gap count = record {
  above = omega arith;
  near = omega (arith, gap);
  starts = omega arith;
  whole = omega arith;
  small = omega (arith, count);
  fits = omega (arith, length-map-range_with_len (byte_of i) 0 (4096 * s.count - s.short));
}

pub small_gap : (x : ℕ) → (shape_of x).gap < 64
small_gap x = below (draw_from (next_state x))
  where
    below : (a : ℕ) → a % 64 < 64
    below a = omega arith

pub small_count : (x : ℕ) → (shape_of x).count ≤ 512
small_count x = below (draw_from (second_state x))
  where
    below : (a : ℕ) → 1 + a % 512 ≤ 512
    below a = omega arith

rising : (left i x next : ℕ) → AreRising (4096 * next) (segments_from left i x next)
unfolding segments_from
rising zero i x next = tt
rising (suc left) i x next =
    let s = shape_of x in
    let behind : 4096 * page_behind next s ≡ stop (segment_of i next s) = omega arith in
    (next_of i next s (small_gap x) (small_count x), subst (λ low. AreRising low (segments_from left (i + 1) (third_state x) (page_behind next s))) behind (rising left (i + 1) (third_state x) (page_behind next s)))

length-segments_from : (left i x next : ℕ) → length (segments_from left i x next) ≡ left
unfolding segments_from
length-segments_from zero i x next = refl
length-segments_from (suc left) i x next = ap suc (length-segments_from left (i + 1) (third_state x) (page_behind next (shape_of x)))

-- the segments of a sample
pub IsBare-sample : (number : ℕ) → IsBare (sample_segments number)
IsBare-sample number =
    let n = length-segments_from 16 0 number 4096 in
    bare (4096 * 4096) (sample_segments number) (omega arith) (omega (arith, n)) (omega (arith, n)) (rising 16 0 number 4096)

pub need-sample : (number : ℕ) → need Plain (sample_segments number) ≤ 16384
need-sample number =
    let n = length-segments_from 16 0 number 4096 in
    omega (arith, n, few_pages (4096 * 4096) (sample_segments number) (rising 16 0 number 4096))

-- the next segment
pub segments_step : (k left i x next : ℕ) → left ≡ suc k → segments_from left i x next ≡ segment_of i next (shape_of x) ∷ segments_from k (i + 1) (third_state x) (page_behind next (shape_of x))
unfolding segments_from
segments_step k left i x next e = rw e refl

pub segments_end : (left i x next : ℕ) → left ≡ 0 → segments_from left i x next ≡ []
unfolding segments_from
segments_end left i x next e = rw e refl

-- of these segments want of memory is the only refusal
pub only_memory : (number : ℕ) (ss : List SegmentValue) (e : SegFault) → ss ≡ sample_segments number → Refuses e (bare_refusal ss) → e ≡ faults.Memory
only_memory number ss e same (inl h) = absurd (none-some e (sym (ap bare_refusal same ∙ IsBare-sample number) ∙ h))
only_memory number ss e same (inr h) = h.0

-- one segment more is drawn
pub drawn_more : (draw_from : List SegmentValue) (k left i x next y : ℕ) (shape : Shape) (s : SegmentValue) → left ≡ suc k → y ≡ third_state x → shape ≡ shape_of x → s ≡ segment_of i next shape
    → (draw_from ++ s ∷ []) ++ segments_from k (i + 1) y (next + (shape.gap + shape.count)) ≡ draw_from ++ segments_from left i x next
drawn_more draw_from k left i x next y shape s last state is made =
    rw (made, is, state, segments_step k left i x next last) (append_assoc draw_from (segment_of i next (shape_of x) ∷ []) (segments_from k (i + 1) (third_state x) (page_behind next (shape_of x))))

-- one byte more
pub byte_more : (bytes more : List ℕ) (i j b : ℕ) → bytes ≡ bytes_of i j → b ≡ byte_of i j → more ≡ bytes ++ b ∷ [] → more ≡ bytes_of i (j + 1)
byte_more bytes more i j b old is new =
    let place : 0 + j ≡ j = omega arith in
    new ∙ ap (λ xs. xs ++ b ∷ []) old ∙ ap (λ b. bytes_of i j ++ b ∷ []) is ∙ sym (map-range_with_len_more (byte_of i) 0 j j place)
