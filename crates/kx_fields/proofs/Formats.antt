-- The laws of formats, proved once for all tables: what was written is read, what was read and is written back leaves
-- the bytes as they were, and nothing outside the fields changes.
use Rattle.std.specs.Prelude.{◌≡◌, ℕ, ◌+◌, ◌<◌, ◌≤◌, ◌^◌, true, List, ◌++◌, length, take, drop, slice_index}
use Rattle.std.proofs.Common.{refl, sym, ap, ◌∙◌, subst, arith, inl, inr, length-append, length-drop}
use Rattle.std.proofs.lemmas.List.{take-append-le, take-append-drop, take_all}
use Rattle.std.specs.Prelude.{ℤ, FitsSigned}
use Rattle.std.specs.Int.{w64}
use Rattle.std.proofs.lemmas.Int.{of_z-to_z, to_z-of_z}
use Rattle.std.proofs.Math.Seq.{take-append_seam, drop-append_seam}
use Rattle.kx_fields.specs.Fields.{AreBytes, field, bytes_at, with_bytes, zeros, signed}
use Rattle.kx_fields.specs.inner.Fields.{unsigned}
use Rattle.kx_fields.specs.Formats.{blank, with_values, Format, table, read, written}
use Rattle.kx_fields.specs.inner.Formats.{texts, values_at, Fit, is_outside, is_table, is_packed, Fits, value_of, IsOfNumbers, IsFormat}
use Rattle.kx_fields.proofs.Bytes.{AreBytes-with_bytes, AreBytes-with_values, AreBytes-zeros, length-zeros}
use Rattle.kx_fields.proofs.Tables.{field_fits, values_fit, length-with_values, outside_values, values_back, values_put_back, values_onto, outside_bytes, outside_packed, front_same, past_end, values_packed, values_beside}

-- the numbers of what bytes read as are those in the fields
pub numbers_read : {S : Type 0} (n : ℕ) (f : Format S) (bytes : List ℕ) → IsFormat n f → AreBytes bytes → f.numbers (read f bytes) ≡ values_at (table f) bytes
numbers_read n f bytes is each = is.numbered (λ at w. field at w bytes) (λ at w. field_fits at w bytes each)

-- what bytes read as is what numbers are in the fields
pub read_by_numbers : {S : Type 0} (n : ℕ) (f : Format S) (s : S) (bytes : List ℕ) → IsFormat n f → IsOfNumbers f s → AreBytes bytes → values_at (table f) bytes ≡ f.numbers s → read f bytes ≡ s
read_by_numbers n f s bytes is whole each e =
    sym (is.whole (λ at w. field at w bytes) (λ at w. field_fits at w bytes each))
    ∙ ap (λ vs. f.layout (λ at w. value_of (table f) vs at)) (numbers_read n f bytes is each ∙ e)
    ∙ whole

-- what was written is read
pub read_written : {S : Type 0} (n : ℕ) (f : Format S) (s : S) (bytes : List ℕ) → IsFormat n f → IsOfNumbers f s → Fits f s → length bytes ≡ n → AreBytes bytes → read f (written f s bytes) ≡ s
read_written n f s bytes is whole fit long each =
    read_by_numbers n f s (written f s bytes) is whole (AreBytes-with_values (table f) (f.numbers s) bytes each)
    (values_back (table f) (f.numbers s) bytes (ap (λ m. is_table m (table f)) long ∙ is.apart) fit)

-- what was read and is written back leaves the bytes as they were
pub written_read : {S : Type 0} (n : ℕ) (f : Format S) (bytes : List ℕ) → IsFormat n f → length bytes ≡ n → AreBytes bytes → written f (read f bytes) bytes ≡ bytes
written_read n f bytes is long each =
    ap (λ vs. with_values (table f) vs bytes) (numbers_read n f bytes is each)
    ∙ values_put_back (table f) bytes (ap (λ m. is_table m (table f)) long ∙ is.apart) each

-- a field with no byte in common with those of the format stays
pub written_outside : {S : Type 0} (n b u : ℕ) (f : Format S) (s : S) (bytes : List ℕ) → IsFormat n f → is_outside b u (table f) ≡ true → length bytes ≡ n → field b u (written f s bytes) ≡ field b u bytes
written_outside n b u f s bytes is out long =
    outside_values b u (table f) (f.numbers s) bytes (ap (λ m. is_table m (table f)) long ∙ is.apart) out

pub length-written : {S : Type 0} (n : ℕ) (f : Format S) (s : S) (bytes : List ℕ) → IsFormat n f → length bytes ≡ n → length (written f s bytes) ≡ n
length-written n f s bytes is long = length-with_values (table f) (f.numbers s) bytes (ap (λ m. is_table m (table f)) long ∙ is.apart) ∙ long

-- what is read fits
pub read_fits : {S : Type 0} (n : ℕ) (f : Format S) (bytes : List ℕ) → IsFormat n f → AreBytes bytes → Fits f (read f bytes)
read_fits n f bytes is each = subst (Fit (table f)) (sym (numbers_read n f bytes is each)) (values_fit (table f) bytes each)

-- what was read behind the front bytes is written behind these, over any others
pub written_behind : {S : Type 0} (n at : ℕ) (f : Format S) (front xs ys : List ℕ) → IsFormat n f → is_packed n at (table f) ≡ true → length front ≡ at → length (front ++ xs) ≡ n → length (front ++ ys) ≡ n → AreBytes (front ++ ys) → written f (read f (front ++ ys)) (front ++ xs) ≡ front ++ ys
written_behind n at f front xs ys is packed size long_x long_y each =
    ap (λ vs. with_values (table f) vs (front ++ xs)) (numbers_read n f (front ++ ys) is each)
    ∙ values_onto (table f) (front ++ xs) (front ++ ys) (long_x ∙ sym long_y) each (ap (λ m. is_table m (table f)) long_y ∙ is.apart)
    (λ k out. elim (outside_packed n at k (table f) packed out) [ inl h ↦ front_same front xs ys k (omega (arith, size, h)) | inr h ↦ past_end (front ++ xs) (front ++ ys) n k long_x long_y h ])

-- what was read is written over any bytes that agree outside the fields
pub written_onto : {S : Type 0} (n : ℕ) (f : Format S) (xs ys : List ℕ) → IsFormat n f → length xs ≡ n → length ys ≡ n → AreBytes ys → ((k : ℕ) → is_outside k 1 (table f) ≡ true → slice_index xs k ≡ slice_index ys k) → written f (read f ys) xs ≡ ys
written_onto n f xs ys is long_x long_y each agree =
    ap (λ vs. with_values (table f) vs xs) (numbers_read n f ys is each)
    ∙ values_onto (table f) xs ys (long_x ∙ sym long_y) each (ap (λ m. is_table m (table f)) long_y ∙ is.apart) agree

-- bytes with none in common with the fields stay
pub written_bytes : {S : Type 0} (n b u : ℕ) (f : Format S) (s : S) (bytes : List ℕ) → IsFormat n f → is_outside b u (table f) ≡ true → length bytes ≡ n → bytes_at b u (written f s bytes) ≡ bytes_at b u bytes
written_bytes n b u f s bytes is out long =
    outside_bytes b u (table f) (f.numbers s) bytes (ap (λ m. is_table m (table f)) long ∙ is.apart) out

pub written_packed : {S : Type 0} (n : ℕ) (f : Format S) (s : S) (front xs : List ℕ) → is_packed n (length front) (table f) ≡ true → length (f.numbers s) ≡ length (table f) → length (front ++ xs) ≡ n → written f s (front ++ xs) ≡ front ++ texts (table f) (f.numbers s)
written_packed n f s front xs packed same long = values_packed n (length front) (table f) (f.numbers s) front xs packed same refl long

-- A block at the front of longer bytes.

pub front_taken : {S : Type 0} (n : ℕ) (f : Format S) (s : S) (bytes rest : List ℕ) → IsFormat n f → length bytes ≡ n → take n (written f s bytes ++ rest) ≡ written f s bytes
front_taken n f s bytes rest is long =
    let size = length-written n f s bytes is long in
    take-append-le n (written f s bytes) rest (omega (arith, size)) ∙ take_all n (written f s bytes) (omega (arith, size))

pub front_dropped : {S : Type 0} (n : ℕ) (f : Format S) (s : S) (bytes rest : List ℕ) → IsFormat n f → length bytes ≡ n → drop n (written f s bytes ++ rest) ≡ rest
front_dropped n f s bytes rest is long =
    subst (λ m. drop m (written f s bytes ++ rest) ≡ rest) (length-written n f s bytes is long) (drop-append_seam (written f s bytes) rest)

-- what was written at the front is read
pub front_read : {S : Type 0} (n : ℕ) (f : Format S) (s : S) (bytes rest : List ℕ) → IsFormat n f → IsOfNumbers f s → Fits f s → length bytes ≡ n → AreBytes bytes → read f (take n (written f s bytes ++ rest)) ≡ s
front_read n f s bytes rest is whole fit long each =
    ap (read f) (front_taken n f s bytes rest is long) ∙ read_written n f s bytes is whole fit long each

-- Blocks that begin with certain bytes, as a magic number.

pub length-blank : (n : ℕ) (front : List ℕ) → length front ≤ n → length (blank n front) ≡ n
length-blank n front within =
    let long = length-zeros n in
    omega (arith, length-append front (drop (0 + length front) (zeros n)), length-drop (0 + length front) (zeros n), long)

pub AreBytes-blank : (n : ℕ) (front : List ℕ) → AreBytes front → AreBytes (blank n front)
AreBytes-blank n front each = AreBytes-with_bytes 0 front (zeros n) each (AreBytes-zeros n)

-- what was written over such bytes begins with them
pub blank_begins : {S : Type 0} (n : ℕ) (f : Format S) (s : S) (front : List ℕ) → IsFormat n f → is_outside 0 (length front) (table f) ≡ true → length front ≤ n → written f s (blank n front) ≡ front ++ drop (length front) (written f s (blank n front))
blank_begins n f s front is out within =
    let whole = written f s (blank n front) in
    let kept = written_bytes n 0 (length front) f s (blank n front) is out (length-blank n front within) in
    sym (take-append-drop (length front) whole)
    ∙ ap (λ l. l ++ drop (length front) whole) (kept ∙ take-append_seam front (drop (0 + length front) (zeros n)))

-- what was read from bytes that begin so is written as it was, if the fields are all that follows
pub blank_spelled : {S : Type 0} (n : ℕ) (f : Format S) (front ys : List ℕ) → IsFormat n f → is_packed n (length front) (table f) ≡ true → length front ≤ n → length ys ≡ n → AreBytes ys → ys ≡ front ++ drop (length front) ys → written f (read f ys) (blank n front) ≡ ys
blank_spelled n f front ys is packed within long each begins =
    let rest = drop (length front) ys in
    ap (λ l. written f (read f l) (blank n front)) begins
    ∙ written_behind n (length front) f front (drop (0 + length front) (zeros n)) rest is packed refl (length-blank n front within) (ap length (sym begins) ∙ long) (subst AreBytes begins each)
    ∙ sym begins

-- the bits of the signed number of these bits, and of a signed number that fits 64
pub unsigned-signed : (n : ℕ) → n < 256 ^ 8 → unsigned (signed n) ≡ n
unsigned-signed n h = of_z-to_z w64 n (omega arith)

pub signed-unsigned : (z : ℤ) → FitsSigned w64 z → signed (unsigned z) ≡ z
signed-unsigned z h = to_z-of_z w64 z h

-- Bytes that are put beside the fields.

-- of bytes that have the same numbers in the fields the same is read
pub read_same : {S : Type 0} (n : ℕ) (f : Format S) (xs ys : List ℕ) → IsFormat n f → AreBytes xs → AreBytes ys → values_at (table f) xs ≡ values_at (table f) ys → read f xs ≡ read f ys
read_same n f xs ys is a b same =
    read_by_numbers n f (read f ys) xs is (is.whole (λ at w. field at w ys) (λ at w. field_fits at w ys b)) a
    (same ∙ sym (numbers_read n f ys is b))

pub read_beside : {S : Type 0} (n at u : ℕ) (f : Format S) (these xs : List ℕ) → IsFormat n f → AreBytes these → AreBytes xs → length these ≤ u → at + length these ≤ length xs → is_outside at u (table f) ≡ true → read f (with_bytes at these xs) ≡ read f xs
read_beside n at u f these xs is a b few within out =
    read_same n f (with_bytes at these xs) xs is (AreBytes-with_bytes at these xs a b) b (values_beside at u (table f) these xs few within out)
