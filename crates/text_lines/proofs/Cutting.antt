-- A cut gives the parts round the first such byte, and digits are no other bytes: laws for crates that say which texts
-- their lines are.
use Rattle.std.proofs.Common.{◌≡◌, ◌<◌, ℕ, List, [], ◌∷◌, ◌++◌, length, length-append, get_or, refl, sym, ap, ◌∙◌, arith, true, false, Some, None, Option, Bool}
use Rattle.std.specs.Prelude.{◌==◌, not, nat_lt, if◌then◌else◌, unwrap_or}
use Rattle.std.specs.List.{before_first, after_first, position_or_len, list_all}
use Rattle.std.specs.Str.Parse.{digits_value}
use Rattle.std.proofs.Math.Seq.{take-append_seam, drop-append-add}
use Rattle.std.proofs.lemmas.Bool.{and_parts, and_from, lt-ltb, ltb-true}
use Rattle.std.proofs.lemmas.List.Sums.{split_at_first, passes_at_first}
use Rattle.text_lines.specs.Lines.{cut, is_digit, number, number_of}

-- no byte of these is `at`
abbrev pub has_no : ℕ → List ℕ → Bool
has_no at bytes = list_all (λ b. not (b == at)) bytes

is_same : (a b : ℕ) → (a == b) ≡ true → a ≡ b
is_same a b h = grind arith

itself : (a : ℕ) → (a == a) ≡ true
itself a = grind arith

same_parts : (a b c d : List ℕ) → ◌≡◌ {A = Option (List ℕ × List ℕ)} (Some (a, b)) (Some (c, d)) → (a ≡ c) × (b ≡ d)
same_parts a b c d e = (ap (λ o. (unwrap_or {T = List ℕ × List ℕ} o ([], [])).0) e, ap (λ o. (unwrap_or {T = List ℕ × List ℕ} o ([], [])).1) e)

-- a text that is cut is the two parts with the byte between
pub cut_parts : (at : ℕ) (bytes front after : List ℕ) → cut at bytes ≡ Some (front, after) → bytes ≡ front ++ at ∷ after
unfolding cut
cut_parts at bytes front after h = go (nat_lt (position_or_len (λ b. b == at) bytes) (length bytes)) refl h
  where
    go : (c : Bool) → nat_lt (position_or_len (λ b. b == at) bytes) (length bytes) ≡ c
        → ◌≡◌ {A = Option (List ℕ × List ℕ)} (if c then Some (before_first (λ b. b == at) bytes, after_first (λ b. b == at) bytes) else None) (Some (front, after)) → bytes ≡ front ++ at ∷ after
    go false t e = cc
    go true t e =
        let below = ltb-true _ _ t in
        let both = same_parts _ _ _ _ e in
        let here : get_or bytes (position_or_len (λ b. b == at) bytes) 0 ≡ at = is_same _ at (passes_at_first (λ b. b == at) bytes 0 below) in
        split_at_first (λ b. b == at) bytes 0 below
        ∙ ap (λ x. before_first (λ b. b == at) bytes ++ (x ∷ after_first (λ b. b == at) bytes)) here
        ∙ ap (λ xs. xs ++ at ∷ after_first (λ b. b == at) bytes) both.0
        ∙ ap (λ xs. front ++ at ∷ xs) both.1

place_behind : (at : ℕ) (front after : List ℕ) → has_no at front ≡ true → position_or_len (λ b. b == at) (front ++ at ∷ after) ≡ length front
place_behind at [] after h = rw (itself at) refl
place_behind at (x ∷ xs) after h =
    let both = and_parts (not (x == at)) (has_no at xs) h in
    let ih = place_behind at xs after both.1 in
    rw both.0 (omega (arith, ih))

place_nowhere : (at : ℕ) (bytes : List ℕ) → has_no at bytes ≡ true → position_or_len (λ b. b == at) bytes ≡ length bytes
place_nowhere at [] h = refl
place_nowhere at (x ∷ xs) h =
    let both = and_parts (not (x == at)) (has_no at xs) h in
    let ih = place_nowhere at xs both.1 in
    rw both.0 (omega (arith, ih))

-- two parts with the byte between are cut there, if it is not in the first
pub cut_behind : (at : ℕ) (front after : List ℕ) → has_no at front ≡ true → cut at (front ++ at ∷ after) ≡ Some (front, after)
unfolding cut
cut_behind at front after h =
    let place = place_behind at front after h in
    let less : nat_lt (length front) (length (front ++ at ∷ after)) ≡ true = lt-ltb _ _ (omega (arith, length-append front (at ∷ after))) in
    rw (place, less) (pair (take-append_seam front (at ∷ after)) (drop-append-add front (at ∷ after) 1))
  where
    pair : {x y u v : List ℕ} → x ≡ u → y ≡ v → ◌≡◌ {A = Option (List ℕ × List ℕ)} (Some (x, y)) (Some (u, v))
    pair p q = cc

-- a text without the byte is not cut
pub cut_nowhere : (at : ℕ) (bytes : List ℕ) → has_no at bytes ≡ true → cut at bytes ≡ None
unfolding cut
cut_nowhere at bytes h =
    let place = place_nowhere at bytes h in
    let same : nat_lt (length bytes) (length bytes) ≡ false = grind arith in
    rw (place, same) refl

-- the text of a number has digits alone, and at least one
pub number_digits : (text : List ℕ) (n : ℕ) → number text ≡ Some n → (list_all (is_digit 16) text ≡ true) × (0 < length text)
unfolding number number_of
number_digits text n h = go (length text == 0) (nat_lt 16 (length text)) (list_all (is_digit 16) text) refl refl h
  where
    go : (empty long all : Bool) → (length text == 0) ≡ empty → list_all (is_digit 16) text ≡ all
        → (if empty then None else (if long then None else (if all then Some (digits_value 16 text) else None))) ≡ Some n → (list_all (is_digit 16) text ≡ true) × (0 < length text)
    go true long all z e h = cc
    go false true all z e h = cc
    go false false false z e h = cc
    go false false true z e h = (e, some_length (length text) z)
      where
        some_length : (k : ℕ) → (k == 0) ≡ false → 0 < k
        some_length k z = grind arith

-- a byte that is no digit is not in the text of a number
no_other : (at : ℕ) (text : List ℕ) → is_digit 16 at ≡ false → list_all (is_digit 16) text ≡ true → has_no at text ≡ true
no_other at [] other all = refl
no_other at (x ∷ xs) other all =
    let both = and_parts (is_digit 16 x) (list_all (is_digit 16) xs) all in
    and_from (not (x == at)) (has_no at xs) (differ (x == at) refl both.0) (no_other at xs other both.1)
  where
    differ : (c : Bool) → (x == at) ≡ c → is_digit 16 x ≡ true → not c ≡ true
    differ false e d = refl
    differ true e d = absurd (clash (is_digit 16 at) (ap (is_digit 16) (sym (is_same x at e)) ∙ d) other)
      where
        clash : (b : Bool) → b ≡ true → b ≡ false → ⊥
        clash true p q = cc
        clash false p q = cc

pub number_has_no : (at : ℕ) (text : List ℕ) (n : ℕ) → is_digit 16 at ≡ false → number text ≡ Some n → has_no at text ≡ true
number_has_no at text n other h = no_other at text other (number_digits text n h).0
