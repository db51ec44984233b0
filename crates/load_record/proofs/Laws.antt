-- A record has one file of each version, and a file is read as one record. Crates above cite these.
use Rattle.std.proofs.Common.{◌≡◌, ℕ, ◌*◌, ◌/◌, ◌%◌, ◌^◌, ◌<◌, ◌≤◌, List, ◌++◌, length, take, drop, Bool, true, false, cond, refl, sym, ap, ◌∙◌, subst, arith, Ok, Option, Some, None}
use Rattle.std.specs.Prelude.{not, nat_lt, ◌==◌, ◌&&◌, ◌||◌}
use Rattle.std.specs.List.{flat_map}
use Rattle.std.proofs.lemmas.Bool.Decides.{nat_tests}
use Rattle.std.proofs.lemmas.List.{length-take, take-append-drop}
use Rattle.kx_fields.specs.Fields.{AreBytes}
use Rattle.kx_fields.proofs.Fields.{AreBytes-drop}
use Rattle.kx_fields.proofs.Bytes.{AreBytes-take}
use Rattle.kx_laws.specs.Results.{◌>>=◌}
use Rattle.kx_laws.proofs.Lists.{begins_with}
use Rattle.kx_laws.proofs.Results.{bind_ok, ok_same}
use Rattle.kx_pages.specs.Numbers.{is_page_address}
use Rattle.kx_pages.specs.declared.image.Mode.{Mode}
use Rattle.kx_pages.specs.declared.image.Mode.TheVariants.{Plain, Kept}
use Rattle.segments.specs.Values.{SegmentValue}
use Rattle.segments.specs.Rules.{bare_refusal}
use Rattle.segments.proofs.Laws.{AreSegments-from_IsBare}
use Rattle.segments.specs.declared.fault.SegFault.{SegFault}
use Rattle.load_record.specs.declared.head.Head.{Head}
use Rattle.load_record.specs.declared.version.Version.{Version}
use Rattle.load_record.specs.declared.version.Version.TheVariants.{First, Second}
use Rattle.load_record.specs.Head.{magic, has_magic, version_of, head_text, head_fault}
use Rattle.load_record.specs.inner.Head.{IsInRange}
use Rattle.load_record.specs.File.{Record, mode_number, swap_address, head_of_record, record_of, segment_text, record_text, tested_head, tested_segments, record_by, record_reading}
use Rattle.load_record.specs.inner.File.{HasPages, IsWritable}
use Rattle.load_record.proofs.Heads.{IsGood, good_head, no_fault_of, head_spelled, head_found, magic_first, version_again, head_tested_text, behind_head}
use Rattle.load_record.proofs.Bodies.{tested_spelled, tested_back, segment_ranges}

-- what each LoadRecord is that can be written
pub record IsRecord (r : Record) : Type 0 where
  pub range : IsInRange (head_of_record r)
  pub pages : HasPages r
  pub writable : IsWritable r

-- the numbers of a record of a head are those of the head
mode_again : (m swap : ℕ) (b : Bool) → (m == 0) ≡ b → m ≤ 1 → swap % 4096 ≡ 0 → (m ≡ 0 → swap ≡ 0) → (mode_number (cond b Plain (Kept (swap / 4096))) ≡ m) × (swap_address (cond b Plain (Kept (swap / 4096))) ≡ swap)
mode_again m swap true e l whole none_there =
    let none : m ≡ 0 = grind (arith, nat_tests) in (sym none, sym (none_there none))
mode_again m swap false e l whole none_there =
    let one : 1 ≡ m = grind (arith, nat_tests) in (one, omega (arith, whole))

kind_again : (k : ℕ) (b : Bool) → (k == 1) ≡ b → k ≤ 1 → cond b 1 0 ≡ k
kind_again k true e l = grind (arith, nat_tests)
kind_again k false e l = grind (arith, nat_tests)

pub head_of_record-of : (h : Head) (ss : List SegmentValue) → IsGood h → length ss ≡ h.segments → head_of_record (record_of h ss) ≡ h
head_of_record-of h ss g e =
    let m = mode_again h.mode h.swap (h.mode == 0) refl g.mode g.swap g.no_swap in
    let k = kind_again h.kind (h.kind == 1) refl g.kind in
    let c : 4096 * (h.control / 4096) ≡ h.control = omega (arith, g.control) in
    λ i. record {
      kind = k i;
      mode = m.0 i;
      head = h.head;
      control = c i;
      swap = m.1 i;
      entry = h.entry;
      rax = h.rax;
      rbx = h.rbx;
      rsi = h.rsi;
      regions = h.regions;
      digest = h.digest;
      segments = e i;
    }

writable_by : (k m swap control : ℕ) → (k == 1) ≡ true → (k ≡ 1 → m ≡ 0) → (k ≡ 1 → control ≡ 0) → ((cond {A = Mode} (m == 0) Plain (Kept (swap / 4096))) ≡ Plain) × (control / 4096 ≡ 0)
writable_by k m swap control e plain none_there =
    let one : k ≡ 1 = grind (arith, nat_tests) in
    let t : (m == 0) ≡ true = grind (arith, nat_tests, plain one) in
    (ap (λ b. cond {A = Mode} b Plain (Kept (swap / 4096))) t, omega (arith, none_there one))

pub record_of-writable : (h : Head) (ss : List SegmentValue) → IsGood h → IsWritable (record_of h ss)
record_of-writable h ss g e = writable_by h.kind h.mode h.swap h.control e g.plain g.no_control

-- a file that was read is how its version spells what was read
pub file_found : (bytes : List ℕ) (h : Head) (ss : List SegmentValue) → AreBytes bytes → tested_head bytes ≡ Ok h → tested_segments (version_of bytes) (length bytes) h.segments (drop 96 bytes) ≡ Ok ss → record_text (version_of bytes) (record_of h ss) ≡ bytes
unfolding record_text
file_found bytes h ss small e f =
    let v = version_of bytes in
    let found = head_found bytes h e in
    let good = good_head h found.good in
    let parts = tested_spelled v (length bytes) h.segments (drop 96 bytes) ss (AreBytes-drop 96 bytes small) f in
    let long : length (take 96 bytes) ≡ 96 = omega (arith, length-take 96 bytes, found.long) in
    let head : head_text v h ≡ take 96 bytes = ap (head_text v) found.is ∙ head_spelled v (take 96 bytes) (AreBytes-take 96 bytes small) long (magic_first v bytes (magic_there bytes v found.begins)) in
    ap (λ x. head_text v x ++ flat_map (segment_text v) ss) (head_of_record-of h ss good parts.0)
    ∙ ap (λ l. l ++ flat_map (segment_text v) ss) head
    ∙ ap (λ l. take 96 bytes ++ l) parts.1
    ∙ take-append-drop 96 bytes
  where
    magic_there : (bytes : List ℕ) (v : Version) → has_magic v bytes ≡ true → bytes ≡ magic v ++ drop 8 bytes
    magic_there bytes First h = begins_with bytes (magic First) h
    magic_there bytes Second h = begins_with bytes (magic Second) h

-- what record_reading gave
pub reading_found : (bytes : List ℕ) (r : Record) → AreBytes bytes → record_reading bytes ≡ Ok r → (record_text (version_of bytes) r ≡ bytes) × IsWritable r
unfolding record_reading
reading_found bytes r small e =
    let v = version_of bytes in
    let a = bind_ok (tested_head bytes) (λ h. tested_segments v (length bytes) h.segments (drop 96 bytes) >>= λ ss. record_by h ss (bare_refusal ss)) r e in
    let b = bind_ok (tested_segments v (length bytes) a.0.segments (drop 96 bytes)) (λ ss. record_by a.0 ss (bare_refusal ss)) r a.2 in
    let same : record_of a.0 b.0 ≡ r = ruled_ok a.0 b.0 (bare_refusal b.0) r b.2 in
    let good = good_head a.0 (head_found bytes a.0 a.1).good in
    subst (λ (r : Record). (record_text v r ≡ bytes) × IsWritable r) same (file_found bytes a.0 b.0 small a.1 b.1, record_of-writable a.0 b.0 good)
  where
    ruled_ok : (h : Head) (ss : List SegmentValue) (o : Option SegFault) (r : Record) → record_by h ss o ≡ Ok r → record_of h ss ≡ r
    ruled_ok h ss None r e = ok_same (record_of h ss) r e
    ruled_ok h ss (Some f) r e = cc

kind_passes : (b : Bool) → nat_lt 1 (cond b 1 0) ≡ false
kind_passes true = refl
kind_passes false = refl

mode_passes : (b : Bool) (m : Mode) → (b ≡ true → m ≡ Plain) → (nat_lt 1 (mode_number m) || ((cond b 1 0 == 1) && (mode_number m == 1))) ≡ false
mode_passes true Plain h = refl
mode_passes false Plain h = refl
mode_passes false (Kept w) h = refl
mode_passes true (Kept w) h = let e : Kept w ≡ Plain = h refl in absurd (cc)

address_passes : (c : ℕ) → 4096 * c < 2 ^ 46 → not (is_page_address (4096 * c)) ≡ false
address_passes c h =
    let a : ((4096 * c) % 4096 == 0) ≡ true = grind (arith, nat_tests) in
    let b : nat_lt (4096 * c) (2 ^ 46) ≡ true = grind (arith, nat_tests) in
    rw (a, b) refl

rest_passes : (b : Bool) (m : Mode) (c : ℕ) → (b ≡ true → c ≡ 0) → (((cond b 1 0 == 1) && not (4096 * c == 0)) || ((mode_number m == 0) && not (swap_address m == 0))) ≡ false
rest_passes false Plain c h = refl
rest_passes false (Kept w) c h = refl
rest_passes true Plain c h = let t : (4096 * c == 0) ≡ true = grind (arith, nat_tests, h refl) in rw t refl
rest_passes true (Kept w) c h = let t : (4096 * c == 0) ≡ true = grind (arith, nat_tests, h refl) in rw t refl

swap_passes : (m : Mode) → swap_address m < 2 ^ 46 → not (is_page_address (swap_address m)) ≡ false
swap_passes Plain h = refl
swap_passes (Kept w) h = address_passes w h

or_all : (a b c : Bool) → a ≡ false → b ≡ false → c ≡ false → (a || (b || c)) ≡ false
or_all a b c x y z = rw (x, y, z) refl

pub no_fault : (r : Record) → IsRecord r → head_fault (head_of_record r) ≡ None
no_fault r x =
    let ss = AreSegments-from_IsBare r.segments x.pages.bare in
    let some : (length r.segments == 0) ≡ false = grind (arith, nat_tests, ss.some) in
    let few : nat_lt 16 (length r.segments) ≡ false = grind (arith, nat_tests, ss.few) in
    no_fault_of (head_of_record r) (kind_passes r.crash) (mode_passes r.crash r.image.mode (λ e. (x.writable e).0))
    (or_all _ _ _ (address_passes r.image.control (omega (arith, x.pages.control))) (swap_passes r.image.mode x.pages.swap) (rest_passes r.crash r.image.mode r.image.control (λ e. (x.writable e).1)))
    some few

crash_again : (b : Bool) → (cond b 1 0 == 1) ≡ b
crash_again true = refl
crash_again false = refl

mode_read : (m : Mode) → cond {A = Mode} (mode_number m == 0) Plain (Kept (swap_address m / 4096)) ≡ m
mode_read Plain = refl
mode_read (Kept w) = let e : 4096 * w / 4096 ≡ w = omega arith in ap (λ n. Kept n) e

pub record_of-head : (r : Record) → record_of (head_of_record r) r.segments ≡ r
record_of-head r =
    let k = crash_again r.crash in
    let m = mode_read r.image.mode in
    let c : 4096 * r.image.control / 4096 ≡ r.image.control = omega arith in
    λ i. record {
      crash = k i;
      image = record { head = r.image.head; mode = m i; control = c i };
      start = r.start;
      regions = r.regions;
      digest = r.digest;
      segments = r.segments;
    }

-- how a version spells a record is read as this record
pub reading_text : (v : Version) (r : Record) → IsRecord r → record_reading (record_text v r) ≡ Ok r
unfolding record_reading record_text
reading_text v r x =
    let h = head_of_record r in
    let body = flat_map (segment_text v) r.segments in
    let text = head_text v h ++ body in
    let ss = AreSegments-from_IsBare r.segments x.pages.bare in
    let parts = tested_back v (length text) r.segments (segment_ranges r.segments ss.placed ss.fit) in
    ap (λ x. x >>= λ h. tested_segments (version_of text) (length text) h.segments (drop 96 text) >>= λ ss. record_by h ss (bare_refusal ss)) (head_tested_text v h body x.range (no_fault r x))
    ∙ ap (λ u. tested_segments u (length text) (length r.segments) (drop 96 text) >>= λ ss. record_by h ss (bare_refusal ss)) (version_again v h body)
    ∙ ap (λ l. tested_segments v (length text) (length r.segments) l >>= λ ss. record_by h ss (bare_refusal ss)) (behind_head v h body)
    ∙ ap (λ x. x >>= λ ss. record_by h ss (bare_refusal ss)) parts
    ∙ ap (λ o. record_by h r.segments o) x.pages.bare
    ∙ ap Ok (record_of-head r)
