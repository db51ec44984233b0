-- The head of a record's file: what its numbers are where it has no fault, and how it is read and written.
use Rattle.std.proofs.Common.{◌≡◌, ℕ, ◌%◌, ◌^◌, ◌<◌, ◌≤◌, List, ◌++◌, length, take, drop, Bool, true, false, cond, refl, sym, ap, ◌∙◌, arith, Ok, Err, Option, Some, None}
use Rattle.std.specs.Prelude.{not, nat_lt, ◌==◌, ◌&&◌, ◌||◌}
use Rattle.std.proofs.lemmas.Bool.Decides.{nat_tests}
use Rattle.std.proofs.lemmas.Bool.{or_parts, ltb-false}
use Rattle.std.proofs.lemmas.List.{length-append}
use Rattle.kx_fields.specs.Fields.{AreBytes}
use Rattle.kx_fields.specs.Formats.{blank, read}
use Rattle.kx_fields.specs.inner.Formats.{IsFormat}
use Rattle.kx_fields.proofs.Bytes.{AreBytes-from_test}
use Rattle.kx_fields.proofs.Formats.{AreBytes-blank, length-blank, length-written, blank_begins, blank_spelled, front_read, front_dropped}
use Rattle.kx_laws.specs.Results.{◌>>=◌, unless}
use Rattle.kx_laws.proofs.Booleans.{not_false}
use Rattle.kx_laws.proofs.Results.{bind_ok, guard_ok, ok_same}
use Rattle.kx_pages.specs.Numbers.{is_page_address}
use Rattle.load_record.specs.declared.fault.RecFault.{RecFault}
use Rattle.load_record.specs.declared.fault.RecFault.TheVariants as faults
use Rattle.load_record.specs.declared.head.Head.{Head}
use Rattle.load_record.specs.declared.version.Version.{Version}
use Rattle.load_record.specs.declared.version.Version.TheVariants.{First, Second}
use Rattle.load_record.specs.Head.{magic, has_magic, version_of, head_format, head_text, head_fault, is_bad_mode, is_bad_page}
use Rattle.load_record.specs.inner.Head.{IsInRange}
use Rattle.load_record.specs.File.{read_head, tested_head}

pub head_is : IsFormat 96 head_format
head_is = record { numbered = λ at fits. refl; whole = λ at fits. refl; apart = refl }

-- the numbers of a head that has no fault
pub record IsGood (h : Head) : Type 0 where
  pub kind : h.kind ≤ 1
  pub mode : h.mode ≤ 1
  pub plain : h.kind ≡ 1 → h.mode ≡ 0
  pub control : h.control % 4096 ≡ 0
  pub control_below : h.control < 2 ^ 46
  pub swap : h.swap % 4096 ≡ 0
  pub swap_below : h.swap < 2 ^ 46
  pub no_control : h.kind ≡ 1 → h.control ≡ 0
  pub no_swap : h.mode ≡ 0 → h.swap ≡ 0
  pub some : 0 < h.segments
  pub few : h.segments ≤ 16

-- the first test of some and the others
peel : (b : Bool) (x : RecFault) (rest : Option RecFault) → cond b (Some x) rest ≡ None → (b ≡ false) × (rest ≡ None)
peel true x rest h = cc
peel false x rest h = (refl, h)

good_address : (a : ℕ) → not (is_page_address a) ≡ false → (a % 4096 ≡ 0) × (a < 2 ^ 46)
good_address a h =
    let e = not_false (is_page_address a) h in
    let x : a % 4096 ≡ 0 = grind (arith, nat_tests) in
    let y : a < 2 ^ 46 = grind (arith, nat_tests) in (x, y)

is_zero_there : (m k a : ℕ) → ((k == m) && not (a == 0)) ≡ false → k ≡ m → a ≡ 0
is_zero_there m k a h e = grind (arith, nat_tests)

plain_there : (k m : ℕ) → ((k == 1) && (m == 1)) ≡ false → m ≤ 1 → k ≡ 1 → m ≡ 0
plain_there k m h l e = grind (arith, nat_tests)

is_some_there : (n : ℕ) → (n == 0) ≡ false → 0 < n
is_some_there n h = grind (arith, nat_tests)

pub good_head : (h : Head) → head_fault h ≡ None → IsGood h
unfolding head_fault
good_head h e =
    let a = peel (nat_lt 1 h.kind) _ _ e in
    let b = peel (is_bad_mode h) _ _ a.1 in
    let c = peel (is_bad_page h) _ _ b.1 in
    let d = peel (h.segments == 0) _ _ c.1 in
    let f = peel (nat_lt 16 h.segments) _ _ d.1 in
    let m = or_parts (nat_lt 1 h.mode) _ b.0 in
    let p = or_parts (not (is_page_address h.control)) _ c.0 in
    let q = or_parts (not (is_page_address h.swap)) _ p.1 in
    let r = or_parts ((h.kind == 1) && not (h.control == 0)) _ q.1 in
    let x = good_address h.control p.0 in
    let y = good_address h.swap q.0 in
    record {
      kind = ltb-false 1 h.kind a.0;
      mode = ltb-false 1 h.mode m.0;
      plain = plain_there h.kind h.mode m.1 (ltb-false 1 h.mode m.0);
      control = x.0;
      control_below = x.1;
      swap = y.0;
      swap_below = y.1;
      no_control = is_zero_there 1 h.kind h.control r.0;
      no_swap = is_zero_there 0 h.mode h.swap r.1;
      some = is_some_there h.segments d.0;
      few = ltb-false 16 h.segments f.0;
    }

pub no_fault_of : (h : Head) → nat_lt 1 h.kind ≡ false → is_bad_mode h ≡ false → is_bad_page h ≡ false → (h.segments == 0) ≡ false → nat_lt 16 h.segments ≡ false → head_fault h ≡ None
unfolding head_fault
no_fault_of h a b c d e = rw (a, b, c, d, e) refl

magic_size : (v : Version) → length (magic v) ≡ 8
magic_size First = refl
magic_size Second = refl

pub magic_within : (v : Version) → length (magic v) ≤ 96
magic_within v = omega (arith, magic_size v)

magic_bytes : (v : Version) → AreBytes (magic v)
magic_bytes First = AreBytes-from_test (magic First) refl
magic_bytes Second = AreBytes-from_test (magic Second) refl

pub head_size : (v : Version) (h : Head) → length (head_text v h) ≡ 96
unfolding head_text
head_size v h = length-written 96 head_format h (blank 96 (magic v)) head_is (length-blank 96 (magic v) (magic_within v))

begins : (v : Version) (h : Head) → head_text v h ≡ magic v ++ drop 8 (head_text v h)
unfolding head_text
begins First h = blank_begins 96 head_format h (magic First) head_is refl (omega arith)
begins Second h = blank_begins 96 head_format h (magic Second) head_is refl (omega arith)

-- a file that was written is of the version that it was written in
pub version_again : (v : Version) (h : Head) (rest : List ℕ) → version_of (head_text v h ++ rest) ≡ v
version_again First h rest = ap (λ l. version_of (l ++ rest)) (begins First h)
version_again Second h rest = ap (λ l. version_of (l ++ rest)) (begins Second h)

magic_again : (v : Version) (h : Head) (rest : List ℕ) → (has_magic First (head_text v h ++ rest) || has_magic Second (head_text v h ++ rest)) ≡ true
magic_again First h rest = ap (λ l. has_magic First (l ++ rest) || has_magic Second (l ++ rest)) (begins First h)
magic_again Second h rest = ap (λ l. has_magic First (l ++ rest) || has_magic Second (l ++ rest)) (begins Second h)

-- a head that was written is read
pub in_range_text : (v : Version) (h : Head) (rest : List ℕ) → IsInRange h → read head_format (take 96 (head_text v h ++ rest)) ≡ h
unfolding head_text
in_range_text v h rest r =
    front_read 96 head_format h (blank 96 (magic v)) rest head_is refl r (length-blank 96 (magic v) (magic_within v)) (AreBytes-blank 96 (magic v) (magic_bytes v))

-- a head that was read is written as it was
pub head_spelled : (v : Version) (ys : List ℕ) → AreBytes ys → length ys ≡ 96 → ys ≡ magic v ++ drop 8 ys → head_text v (read head_format ys) ≡ ys
unfolding head_text
head_spelled First ys small all begins = blank_spelled 96 head_format (magic First) ys head_is refl (omega arith) all small begins
head_spelled Second ys small all begins = blank_spelled 96 head_format (magic Second) ys head_is refl (omega arith) all small begins

-- bytes that begin with either magic begin with that of their version
either_magic : (bytes : List ℕ) (b : Bool) → has_magic First bytes ≡ b → (b || has_magic Second bytes) ≡ true → has_magic (cond b First Second) bytes ≡ true
either_magic bytes true first some = first
either_magic bytes false first some = some

-- what a head that was read and tested is
pub record IsHeadOf (bytes : List ℕ) (h : Head) : Type 0 where
  pub begins : has_magic (version_of bytes) bytes ≡ true
  pub long : 96 ≤ length bytes
  pub is : h ≡ read head_format (take 96 bytes)
  pub good : head_fault h ≡ None

unless_ok : (o : Option RecFault) (x : Unit {0}) → unless o ≡ Ok x → o ≡ None
unless_ok None x h = refl
unless_ok (Some e) x h = cc

pub head_found : (bytes : List ℕ) (h : Head) → tested_head bytes ≡ Ok h → IsHeadOf bytes h
unfolding tested_head read_head
head_found bytes h e =
    let a = bind_ok (read_head bytes) (λ h. unless (head_fault h) >>= λ _. Ok h) h e in
    let b = bind_ok (unless (head_fault a.0)) (λ _. Ok a.0) h a.2 in
    let same : a.0 ≡ h = ok_same a.0 h b.2 in
    let c = guard_ok (not (has_magic First bytes || has_magic Second bytes)) _ _ a.0 a.1 in
    let d = guard_ok (nat_lt (length bytes) 96) _ _ a.0 c.1 in
    record {
      begins = either_magic bytes (has_magic First bytes) refl (not_false (has_magic First bytes || has_magic Second bytes) c.0);
      long = not_less (length bytes) 96 d.0;
      is = sym same ∙ sym (ok_same _ a.0 d.1);
      good = ap head_fault (sym same) ∙ unless_ok (head_fault a.0) b.0 b.1;
    }
  where
    not_less : (n k : ℕ) → nat_lt n k ≡ false → k ≤ n
    not_less n k h = grind (arith, nat_tests)

-- the first bytes of bytes that begin with a magic begin with it too
pub magic_first : (v : Version) (bytes : List ℕ) → bytes ≡ magic v ++ drop 8 bytes → take 96 bytes ≡ magic v ++ drop 8 (take 96 bytes)
magic_first First bytes e =
    let front : take 96 bytes ≡ magic First ++ take 88 (drop 8 bytes) = ap (take 96) e in
    front ∙ ap (λ l. magic First ++ l) (sym (ap (drop 8) front))
magic_first Second bytes e =
    let front : take 96 bytes ≡ magic Second ++ take 88 (drop 8 bytes) = ap (take 96) e in
    front ∙ ap (λ l. magic Second ++ l) (sym (ap (drop 8) front))

pub head_tested_text : (v : Version) (h : Head) (rest : List ℕ) → IsInRange h → head_fault h ≡ None → tested_head (head_text v h ++ rest) ≡ Ok h
unfolding tested_head read_head
head_tested_text v h rest r none =
    let text = head_text v h ++ rest in
    let size = head_size v h in
    let all = length-append (head_text v h) rest in
    let long : nat_lt (length text) 96 ≡ false = grind (arith, nat_tests) in
    ap (λ b. cond (not b) (Err faults.BadMagic) (cond (nat_lt (length text) 96) (Err (faults.Truncated (length text))) (Ok (read head_format (take 96 text)))) >>= λ h. unless (head_fault h) >>= λ _. Ok h) (magic_again v h rest)
    ∙ ap (λ b. cond b (Err (faults.Truncated (length text))) (Ok (read head_format (take 96 text))) >>= λ h. unless (head_fault h) >>= λ _. Ok h) long
    ∙ ap (λ h. unless (head_fault h) >>= λ _. Ok h) (in_range_text v h rest r)
    ∙ ap (λ o. unless o >>= λ _. Ok h) none

pub behind_head : (v : Version) (h : Head) (rest : List ℕ) → drop 96 (head_text v h ++ rest) ≡ rest
unfolding head_text
behind_head v h rest = front_dropped 96 head_format h (blank 96 (magic v)) rest head_is (length-blank 96 (magic v) (magic_within v))
