-- Laws on lists of bytes: parts of bytes, and bytes with fields put, are bytes.
use Rattle.std.specs.Prelude.{◌≡◌, ℕ, zero, suc, ◌+◌, ◌<◌, true, List, [], ◌∷◌, ◌++◌, length, take, drop, nat_lt}
use Rattle.std.proofs.Common.{arith}
use Rattle.std.proofs.lemmas.List.{length-replicate}
use Rattle.std.proofs.lemmas.Bool.Decides.{nat_tests}
use Rattle.std.specs.Int.{bytes_low_first}
use Rattle.byteorder.specs.Endian.{little_bytes}
use Rattle.kx_fields.specs.Fields.{AreBytes, with_field, with_bytes, zeros}
use Rattle.kx_fields.proofs.Fields.{byte_at-pow, AreBytes-drop}
use Rattle.kx_fields.specs.Formats.{Table, with_values}
use Rattle.kx_fields.specs.inner.Formats.{are_bytes}
use Rattle.std.proofs.lemmas.Bool.{and_parts}

-- bytes stay bytes
pub AreBytes-take : (n : ℕ) (xs : List ℕ) → AreBytes xs → AreBytes (take n xs)
AreBytes-take zero xs each k = omega arith
AreBytes-take (suc n) [] each k = omega arith
AreBytes-take (suc n) (x ∷ xs) each zero = each zero
AreBytes-take (suc n) (x ∷ xs) each (suc k) = AreBytes-take n xs (λ j. each (suc j)) k

pub AreBytes-append : (xs ys : List ℕ) → AreBytes xs → AreBytes ys → AreBytes (xs ++ ys)
AreBytes-append [] ys a b k = b k
AreBytes-append (x ∷ xs) ys a b zero = a zero
AreBytes-append (x ∷ xs) ys a b (suc k) = AreBytes-append xs ys (λ j. a (suc j)) b k

AreBytes-low : (j k n : ℕ) → AreBytes (bytes_low_first j k n)
AreBytes-low j zero n i = omega arith
AreBytes-low j (suc k) n zero = let e = byte_at-pow j n in omega (arith, e)
AreBytes-low j (suc k) n (suc i) = AreBytes-low (suc j) k n i

pub AreBytes-with_bytes : (at : ℕ) (these bytes : List ℕ) → AreBytes these → AreBytes bytes → AreBytes (with_bytes at these bytes)
AreBytes-with_bytes at these bytes a b =
    AreBytes-append (take at bytes) (these ++ drop (at + length these) bytes) (AreBytes-take at bytes b)
    (AreBytes-append these (drop (at + length these) bytes) a (AreBytes-drop (at + length these) bytes b))

-- of a list that is written out, as `refl`
pub AreBytes-from_test : (xs : List ℕ) → are_bytes xs ≡ true → AreBytes xs
AreBytes-from_test [] h k = omega arith
AreBytes-from_test (x ∷ xs) h zero = let a = (and_parts (nat_lt x 256) (are_bytes xs) h).0 in below x a
  where
    below : (x : ℕ) → nat_lt x 256 ≡ true → x < 256
    below x h = grind (arith, nat_tests)
AreBytes-from_test (x ∷ xs) h (suc k) = AreBytes-from_test xs (and_parts (nat_lt x 256) (are_bytes xs) h).1 k

pub AreBytes-with_field : (at w v : ℕ) (bytes : List ℕ) → AreBytes bytes → AreBytes (with_field at w v bytes)
unfolding with_field
AreBytes-with_field at w v bytes each =
    AreBytes-append (take at bytes) (little_bytes w v ++ drop (at + w) bytes) (AreBytes-take at bytes each)
    (AreBytes-append (little_bytes w v) (drop (at + w) bytes) (AreBytes-low 0 w v) (AreBytes-drop (at + w) bytes each))

pub AreBytes-with_values : (t : Table) (vs bytes : List ℕ) → AreBytes bytes → AreBytes (with_values t vs bytes)
AreBytes-with_values [] vs bytes each = each
AreBytes-with_values (p ∷ ps) [] bytes each = each
AreBytes-with_values (p ∷ ps) (v ∷ vs) bytes each = AreBytes-with_values ps vs (with_field p.0 p.1 v bytes) (AreBytes-with_field p.0 p.1 v bytes each)

-- zeros are so many bytes
pub length-zeros : (n : ℕ) → length (zeros n) ≡ n
unfolding zeros
length-zeros n = length-replicate n 0

pub AreBytes-zeros : (n : ℕ) → AreBytes (zeros n)
unfolding zeros
AreBytes-zeros zero k = omega arith
AreBytes-zeros (suc n) zero = omega arith
AreBytes-zeros (suc n) (suc k) = AreBytes-zeros n k
