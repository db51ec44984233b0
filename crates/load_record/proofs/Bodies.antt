-- The segments in a record's file, as they are read and written.
use Rattle.std.proofs.Common.{◌≡◌, ℕ, zero, suc, ◌+◌, ◌-◌, ◌^◌, ◌<◌, ◌≤◌, List, [], ◌∷◌, ◌++◌, length, take, drop, map, Bool, true, false, cond, refl, sym, ap, ◌∙◌, subst, arith, Ok, Err, Result, Option, Some, None, append_assoc}
use Rattle.std.specs.Prelude.{nat_lt, ◌==◌, not}
use Rattle.std.specs.List.{flat_map, AllByRecursion}
use Rattle.std.specs.Str.{bytes_eq}
use Rattle.std.proofs.lemmas.Bool.Decides.{nat_tests}
use Rattle.std.proofs.lemmas.List.{length-take-le, take-append-drop, length-append, drop-drop}
use Rattle.std.proofs.lemmas.Slice.Eq.{bytes_eq-Decides}
use Rattle.sha2.proofs.Facts256.{length-sha256}
use Rattle.kx_fields.specs.Fields.{AreBytes, zeros}
use Rattle.kx_fields.proofs.Fields.{AreBytes-drop}
use Rattle.kx_fields.specs.Formats.{read, written}
use Rattle.kx_fields.specs.inner.Formats.{IsFormat}
use Rattle.kx_fields.proofs.Bytes.{AreBytes-take, AreBytes-zeros, length-zeros}
use Rattle.kx_fields.proofs.Formats.{length-written, written_behind, front_read, front_dropped}
use Rattle.kx_laws.specs.Results.{◌>>=◌}
use Rattle.kx_laws.proofs.Booleans.{not_false}
use Rattle.kx_laws.proofs.Lists.{take_front, drop_front}
use Rattle.kx_laws.proofs.Results.{bind_ok, guard_ok, ok_same}
use Rattle.segments.specs.Values.{SegmentValue}
use Rattle.segments.specs.inner.Shape.{IsPlaced}
use Rattle.load_record.specs.declared.fault.RecFault.{RecFault}
use Rattle.load_record.specs.declared.fault.RecFault.TheVariants as faults
use Rattle.load_record.specs.declared.body.SegmentHead.{SegmentHead}
use Rattle.load_record.specs.declared.version.Version.{Version}
use Rattle.load_record.specs.declared.version.Version.TheVariants.{First, Second}
use Rattle.load_record.specs.File.{FileSegment, digest_of, digest_size, is_wrong, has_wrong_digest, wrong_digest, values, without_wrong, segment_text, segment_format, head_of_segment, segment_of, file_segment, segment_behind, segment_at, read_segments, tested_segments}
use Rattle.std.proofs.lemmas.Bool.{ltb-false}

pub segment_is : IsFormat 24 segment_format
segment_is = record { numbered = λ at fits. refl; whole = λ at fits. refl; apart = refl }

-- a digest that is not wrong
right_digest : (v : Version) (digest bytes : List ℕ) → is_wrong v digest bytes ≡ false → digest ≡ digest_of v bytes
right_digest v digest bytes h = (bytes_eq-Decides digest (digest_of v bytes)).0 (not_false (bytes_eq digest (digest_of v bytes)) h)

-- the text of a segment that was read
text_spelled : (v : Version) (bytes : List ℕ) (n : ℕ)
    → AreBytes bytes
    → 24 + digest_size v ≤ length bytes
    → (read segment_format (take 24 bytes)).bufsz ≡ n
    → n ≤ length (drop (24 + digest_size v) bytes)
    → is_wrong v (take (digest_size v) (drop 24 bytes)) (take n (drop (24 + digest_size v) bytes)) ≡ false
    → segment_text v (segment_of (read segment_format (take 24 bytes)) (take n (drop (24 + digest_size v) bytes))) ++ drop n (drop (24 + digest_size v) bytes) ≡ bytes
unfolding segment_text
text_spelled v bytes n small long is fits right =
    let ys = take 24 bytes in
    let digest = take (digest_size v) (drop 24 bytes) in
    let rest = drop (24 + digest_size v) bytes in
    let h = read segment_format ys in
    let sized : length (take n rest) ≡ h.bufsz = length-take-le n rest fits ∙ sym is in
    let whole : length ys ≡ 24 = length-take-le 24 bytes (omega (arith, long)) in
    let front : written segment_format h (zeros 24) ≡ ys = written_behind 24 0 segment_format [] (zeros 24) ys segment_is refl refl (length-zeros 24) whole (AreBytes-take 24 bytes small) in
    ap (λ m. (written segment_format (record { mem = h.mem; memsz = h.memsz; bufsz = m }) (zeros 24) ++ (digest_of v (take n rest) ++ take n rest)) ++ drop n rest) sized
    ∙ ap (λ l. (l ++ (digest_of v (take n rest) ++ take n rest)) ++ drop n rest) front
    ∙ ap (λ d. (ys ++ (d ++ take n rest)) ++ drop n rest) (sym (right_digest v digest (take n rest) right))
    ∙ append_assoc ys (digest ++ take n rest) (drop n rest)
    ∙ ap (λ l. ys ++ l) (append_assoc digest (take n rest) (drop n rest))
    ∙ ap (λ l. ys ++ (digest ++ l)) (take-append-drop n rest)
    ∙ ap (λ l. ys ++ (digest ++ l)) (sym (drop-drop (digest_size v) 24 bytes))
    ∙ ap (λ l. ys ++ l) (take-append-drop (digest_size v) (drop 24 bytes))
    ∙ take-append-drop 24 bytes

-- a segment that was read is written as it was, if its digest is not wrong
segment_spelled : (v : Version) (total : ℕ) (bytes : List ℕ) (e : FileSegment × List ℕ) → AreBytes bytes → segment_at v total bytes ≡ Ok e → has_wrong_digest v e.0 ≡ false → segment_text v e.0.segment ++ e.1 ≡ bytes
unfolding segment_at
segment_spelled v total bytes e small h right =
    let front = 24 + digest_size v in
    let n = (read segment_format (take 24 bytes)).bufsz in
    let a = guard_ok (nat_lt (length bytes) front) _ _ e h in
    let b = guard_ok (nat_lt (length (drop front bytes)) n) _ _ e a.1 in
    let same = ok_same _ e b.1 in
    let long : front ≤ length bytes = ltb-false (length bytes) front a.0 in
    let fits : n ≤ length (drop front bytes) = ltb-false (length (drop front bytes)) n b.0 in
    ap (λ (e : FileSegment × List ℕ). segment_text v e.0.segment ++ e.1) (sym same)
    ∙ text_spelled v bytes n small long refl fits (ap (λ (e : FileSegment × List ℕ). has_wrong_digest v e.0) same ∙ right)

-- what follows a segment that was read
behind_bytes : (v : Version) (total : ℕ) (bytes : List ℕ) (e : FileSegment × List ℕ) → AreBytes bytes → segment_at v total bytes ≡ Ok e → AreBytes e.1
unfolding segment_at
behind_bytes v total bytes e small h =
    let front = 24 + digest_size v in
    let n = (read segment_format (take 24 bytes)).bufsz in
    let a = guard_ok (nat_lt (length bytes) front) _ _ e h in
    let b = guard_ok (nat_lt (length (drop front bytes)) n) _ _ e a.1 in
    subst (λ (e : FileSegment × List ℕ). AreBytes e.1) (ok_same _ e b.1) (AreBytes-drop n (drop front bytes) (AreBytes-drop front bytes small))

no_bytes : (v : Version) (total : ℕ) (bytes : List ℕ) (fs : List FileSegment) → (b : Bool) → (length bytes == 0) ≡ b → ◌≡◌ {A = Result (List FileSegment) RecFault} (cond b (Ok []) (Err (faults.Trailing (total - length bytes)))) (Ok fs) → (length (values fs) ≡ 0) × (flat_map (segment_text v) (values fs) ≡ bytes)
no_bytes v total [] fs true e h = let same = ok_same [] fs h in (ap (λ xs. length (values xs)) (sym same), ap (λ xs. flat_map (segment_text v) (values xs)) (sym same))
no_bytes v total (x ∷ xs) fs true e h = let none : length (x ∷ xs) ≡ 0 = grind (arith, nat_tests) in absurd (omega (arith, none))
no_bytes v total bytes fs false e h = cc

-- none of them has a wrong digest
none_wrong : (b : Bool) (k : ℕ) (others : Option ℕ) → cond b (Some k) others ≡ None → (b ≡ false) × (others ≡ None)
none_wrong true k others h = cc
none_wrong false k others h = (refl, h)

-- segments that were read are written as they were
segments_spelled : (v : Version) (total n k : ℕ) (bytes : List ℕ) (fs : List FileSegment) → AreBytes bytes → read_segments v total n bytes ≡ Ok fs → wrong_digest v k fs ≡ None → (length (values fs) ≡ n) × (flat_map (segment_text v) (values fs) ≡ bytes)
unfolding read_segments
segments_spelled v total zero k bytes fs small h right = no_bytes v total bytes fs (length bytes == 0) refl h
segments_spelled v total (suc n) k bytes fs small h right =
    let one = bind_ok (segment_at v total bytes) _ fs h in
    let more = bind_ok (read_segments v total n one.0.1) _ fs one.2 in
    let same : one.0.0 ∷ more.0 ≡ fs = ok_same _ fs more.2 in
    let all = none_wrong (has_wrong_digest v one.0.0) k (wrong_digest v (k + 1) more.0) (ap (wrong_digest v k) same ∙ right) in
    let part = segment_spelled v total bytes one.0 small one.1 all.0 in
    let ih = segments_spelled v total n (k + 1) one.0.1 more.0 (behind_bytes v total bytes one.0 small one.1) more.1 all.1 in (
      ap (λ xs. length (values xs)) (sym same) ∙ ap suc ih.0,
      ap (λ xs. flat_map (segment_text v) (values xs)) (sym same) ∙ ap (λ l. segment_text v one.0.0.segment ++ l) ih.1 ∙ part,
    )

pub right_ok : (ss ts : List SegmentValue) (wrong : Option ℕ) → without_wrong ss wrong ≡ Ok ts → (wrong ≡ None) × (ss ≡ ts)
right_ok ss ts None h = (refl, ok_same ss ts h)
right_ok ss ts (Some k) h = cc

pub tested_spelled : (v : Version) (total n : ℕ) (bytes : List ℕ) (ss : List SegmentValue) → AreBytes bytes → tested_segments v total n bytes ≡ Ok ss → (length ss ≡ n) × (flat_map (segment_text v) ss ≡ bytes)
unfolding tested_segments
tested_spelled v total n bytes ss small h =
    let read = bind_ok (read_segments v total n bytes) _ ss h in
    let right = right_ok (values read.0) ss (wrong_digest v 0 read.0) read.2 in
    subst (λ xs. (length xs ≡ n) × (flat_map (segment_text v) xs ≡ bytes)) right.1 (segments_spelled v total n 0 bytes read.0 small read.1 right.0)

-- the numbers of a segment fit their fields
abbrev pub IsSegmentInRange : SegmentValue → Type 0
IsSegmentInRange s = (s.mem < 2 ^ 64) × (s.memsz < 2 ^ 64) × (length s.bytes < 2 ^ 64)

pub segment_size : (s : SegmentValue) → length (written segment_format (head_of_segment s) (zeros 24)) ≡ 24
segment_size s = length-written 24 segment_format (head_of_segment s) (zeros 24) segment_is (length-zeros 24)

pub digest_whole : (v : Version) (bytes : List ℕ) → length (digest_of v bytes) ≡ digest_size v
digest_whole First bytes = refl
digest_whole Second bytes = length-sha256 bytes

-- a segment and its digest, as they stand in a file
abbrev in_file : Version → SegmentValue → FileSegment
in_file v s = record { segment = s; digest = digest_of v s.bytes }

-- what stands at the front of bytes that are long enough
segment_there : (v : Version) (total : ℕ) (bytes digest rest : List ℕ) (h : SegmentHead)
    → nat_lt (length bytes) (24 + digest_size v) ≡ false
    → read segment_format (take 24 bytes) ≡ h
    → take (digest_size v) (drop 24 bytes) ≡ digest
    → drop (24 + digest_size v) bytes ≡ rest
    → segment_at v total bytes ≡ segment_behind total h digest rest
unfolding segment_at
segment_there v total bytes digest rest h long is stands follows =
    ap (λ b. cond b (Err (faults.Truncated total)) (segment_behind total (read segment_format (take 24 bytes)) (take (digest_size v) (drop 24 bytes)) (drop (24 + digest_size v) bytes))) long
    ∙ ap (λ g. segment_behind total g (take (digest_size v) (drop 24 bytes)) (drop (24 + digest_size v) bytes)) is
    ∙ ap (λ d. segment_behind total h d (drop (24 + digest_size v) bytes)) stands
    ∙ ap (segment_behind total h digest) follows

-- a segment's bytes are as many as its head tells
bytes_back : (total : ℕ) (s : SegmentValue) (digest rest : List ℕ) → segment_behind total (head_of_segment s) digest (s.bytes ++ rest) ≡ Ok (record { segment = s; digest = digest }, rest)
bytes_back total s digest rest =
    let fits : nat_lt (length (s.bytes ++ rest)) (length s.bytes) ≡ false = grind (arith, nat_tests, length-append s.bytes rest) in
    ap (λ b. cond b (Err (faults.Truncated total)) (Ok (file_segment (head_of_segment s) digest (take (length s.bytes) (s.bytes ++ rest)), drop (length s.bytes) (s.bytes ++ rest)))) fits
    ∙ ap (λ l. Ok (file_segment (head_of_segment s) digest l, drop (length s.bytes) (s.bytes ++ rest))) (take_front s.bytes rest (length s.bytes) refl)
    ∙ ap (λ l. Ok (record { segment = s; digest = digest }, l)) (drop_front s.bytes rest (length s.bytes) refl)

-- a segment is read as it was written
segment_back : (v : Version) (total : ℕ) (s : SegmentValue) (rest : List ℕ) → IsSegmentInRange s → segment_at v total (segment_text v s ++ rest) ≡ Ok (in_file v s, rest)
unfolding segment_text
segment_back v total s rest r =
    let front = written segment_format (head_of_segment s) (zeros 24) in
    let digest = digest_of v s.bytes in
    let tail = digest ++ (s.bytes ++ rest) in
    let room = digest_whole v s.bytes in
    let whole : (front ++ (digest ++ s.bytes)) ++ rest ≡ front ++ tail = append_assoc front (digest ++ s.bytes) rest ∙ ap (λ l. front ++ l) (append_assoc digest s.bytes rest) in
    let long : nat_lt (length (front ++ tail)) (24 + digest_size v) ≡ false = grind (arith, nat_tests, segment_size s, room, length-append front tail, length-append digest (s.bytes ++ rest)) in
    let head : read segment_format (take 24 (front ++ tail)) ≡ head_of_segment s =
    front_read 24 segment_format (head_of_segment s) (zeros 24) tail segment_is refl (r.0, (r.1, (r.2, tt))) (length-zeros 24) (AreBytes-zeros 24) in
    let behind : drop 24 (front ++ tail) ≡ tail = front_dropped 24 segment_format (head_of_segment s) (zeros 24) tail segment_is (length-zeros 24) in
    let stands : take (digest_size v) (drop 24 (front ++ tail)) ≡ digest = ap (take (digest_size v)) behind ∙ take_front digest (s.bytes ++ rest) (digest_size v) room in
    let follows : drop (24 + digest_size v) (front ++ tail) ≡ s.bytes ++ rest =
    sym (drop-drop (digest_size v) 24 (front ++ tail)) ∙ ap (drop (digest_size v)) behind ∙ drop_front digest (s.bytes ++ rest) (digest_size v) room in
    ap (segment_at v total) whole
    ∙ segment_there v total (front ++ tail) digest (s.bytes ++ rest) (head_of_segment s) long head stands follows
    ∙ bytes_back total s digest rest

-- segments are read as they were written
segments_back : (v : Version) (total : ℕ) (ss : List SegmentValue) → AllByRecursion IsSegmentInRange ss → read_segments v total (length ss) (flat_map (segment_text v) ss) ≡ Ok (map (in_file v) ss)
unfolding read_segments
segments_back v total [] r = refl
segments_back v total (s ∷ ss) r =
    ap (λ x. x >>= λ e. read_segments v total (length ss) e.1 >>= λ fs. Ok (e.0 ∷ fs)) (segment_back v total s (flat_map (segment_text v) ss) r.0)
    ∙ ap (λ x. x >>= λ fs. Ok (in_file v s ∷ fs)) (segments_back v total ss r.1)

values_again : (v : Version) (ss : List SegmentValue) → values (map (in_file v) ss) ≡ ss
values_again v [] = refl
values_again v (s ∷ ss) = ap (λ ts. s ∷ ts) (values_again v ss)

-- their digests are right
digests_again : (v : Version) (k : ℕ) (ss : List SegmentValue) → wrong_digest v k (map (in_file v) ss) ≡ None
digests_again v k [] = refl
digests_again v k (s ∷ ss) =
    let same : bytes_eq (digest_of v s.bytes) (digest_of v s.bytes) ≡ true = (bytes_eq-Decides (digest_of v s.bytes) (digest_of v s.bytes)).1 refl in
    ap (λ b. cond (not b) (Some k) (wrong_digest v (k + 1) (map (in_file v) ss))) same ∙ digests_again v (k + 1) ss

pub tested_back : (v : Version) (total : ℕ) (ss : List SegmentValue) → AllByRecursion IsSegmentInRange ss → tested_segments v total (length ss) (flat_map (segment_text v) ss) ≡ Ok ss
unfolding tested_segments
tested_back v total ss r =
    ap (λ x. x >>= λ fs. without_wrong (values fs) (wrong_digest v 0 fs)) (segments_back v total ss r)
    ∙ ap (without_wrong (values (map (in_file v) ss))) (digests_again v 0 ss)
    ∙ ap Ok (values_again v ss)

pub segment_ranges : (ss : List SegmentValue) → AllByRecursion IsPlaced ss → AllByRecursion (λ s. length s.bytes ≤ s.memsz) ss → AllByRecursion IsSegmentInRange ss
segment_ranges [] p f = tt
segment_ranges (s ∷ ss) p f =
    let below = p.0.below in
    ((omega (arith, below), omega (arith, below), omega (arith, below, f.0)), segment_ranges ss p.1 f.1)
