-- Laws of lists that are cut, of ranges of numbers, and of the first element that passes a test.
use Rattle.std.proofs.Common.{◌≡◌, ℕ, zero, suc, ◌+◌, ◌<◌, ◌≤◌, List, [], ◌∷◌, ◌++◌, length, take, drop, get_or, append_assoc, add-one, Bool, true, refl, sym, ap, ◌∙◌, subst, Some, None, arith}
use Rattle.std.specs.Prelude.{nat_eq, ◌==◌}
use Rattle.std.specs.List.{slice_get, starts_with, range_with_len, position, position_or_len}
use Rattle.std.proofs.Math.Seq.{drop-append_seam, take-append_seam}
use Rattle.std.proofs.lemmas.Bool.Decides.{nat_tests}
use Rattle.std.proofs.lemmas.List.{drop_more}
use Rattle.std.proofs.lemmas.Option.{slice_get_within, get_or_from_slice_get}
use Rattle.kx_laws.proofs.Booleans.{and_parts}

pub take_front : {X : Type 0} (xs rest : List X) (n : ℕ) → length xs ≡ n → take n (xs ++ rest) ≡ xs
take_front xs rest n h = subst (λ m. take m (xs ++ rest) ≡ xs) h (take-append_seam xs rest)

pub drop_front : {X : Type 0} (xs rest : List X) (n : ℕ) → length xs ≡ n → drop n (xs ++ rest) ≡ rest
drop_front xs rest n h = subst (λ m. drop m (xs ++ rest) ≡ rest) h (drop-append_seam xs rest)

-- from place i on stand the element at i and those behind it
pub drop_at : {X : Type 0} (xs : List X) (i : ℕ) (x : X) → slice_get xs i ≡ Some x → drop i xs ≡ x ∷ drop (i + 1) xs
drop_at xs i x e = drop_more xs i x (slice_get_within xs i x e) ∙ ap (λ y. y ∷ drop (i + 1) xs) (get_or_from_slice_get xs i x x e)

-- the same of an element that was read
pub drop_read : {X : Type 0} (xs : List X) (i : ℕ) (x : X) → i < length xs → x ≡ get_or xs i x → drop i xs ≡ x ∷ drop (i + 1) xs
drop_read xs i x l e = drop_more xs i x l ∙ ap (λ y. y ∷ drop (i + 1) xs) (sym e)

-- a range in two parts
pub range-append : (a m n : ℕ) → range_with_len a (m + n) ≡ range_with_len a m ++ range_with_len (a + m) n
range-append a zero n =
    let e : 0 + n ≡ n = omega arith in
    let f : a ≡ a + 0 = omega arith in
    ap (range_with_len a) e ∙ ap (λ b. range_with_len b n) f
range-append a (suc m) n =
    let e : suc m + n ≡ suc (m + n) = omega arith in
    let f : a + 1 + m ≡ a + suc m = omega arith in
    ap (range_with_len a) e ∙ ap (λ xs. a ∷ xs) (range-append (a + 1) m n ∙ ap (λ b. range_with_len (a + 1) m ++ range_with_len b n) f)

-- one number more of a range
pub range_more : (n a : ℕ) → range_with_len a (suc n) ≡ range_with_len a n ++ (a + n) ∷ []
range_more n a = let e : suc n ≡ n + 1 = omega arith in ap (range_with_len a) e ∙ range-append a n 1

-- one number more of a range behind other numbers
pub range_pushed : (front xs : List ℕ) (a i : ℕ) → xs ≡ front ++ range_with_len a i → xs ++ (a + i) ∷ [] ≡ front ++ range_with_len a (i + 1)
range_pushed front xs a i h = rw (h, add-one, range_more i a) (append_assoc front (range_with_len a i) _)

-- where none is the first, the place of the first is behind all
pub none_first : {X : Type 0} (p : X → Bool) (xs : List X) → position p xs ≡ None → length xs ≤ position_or_len p xs
none_first p xs h = grind (arith, nat_tests)

-- what begins with ys is ys and the rest
pub begins_with : (xs ys : List ℕ) → starts_with nat_eq xs ys ≡ true → xs ≡ ys ++ drop (length ys) xs
begins_with xs [] h = refl
begins_with [] (y ∷ ys) h = cc
begins_with (x ∷ xs) (y ∷ ys) h =
    let both = and_parts (y == x) (starts_with nat_eq xs ys) h in
    ap (λ z. z ∷ xs) (sym (same y x both.0)) ∙ ap (λ t. y ∷ t) (begins_with xs ys both.1)
  where
    same : (a b : ℕ) → (a == b) ≡ true → a ≡ b
    same a b h = grind (arith, nat_tests)
