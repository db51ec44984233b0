-- The bits of words, and the bytes that they stand for.
use Rattle.std.proofs.Common.{◌≡◌, ℕ, ◌+◌, ◌-◌, ◌*◌, ◌/◌, ◌%◌, ◌^◌, ◌<◌, ◌≤◌, ◌⊎◌, inl, inr, zero, suc, List, true, false, refl, sym, ap, ◌∙◌, bit_and, bit_or, set, get_or, length, w64, arith}
use Rattle.std.specs.Prelude.{◌||◌, ◌==◌, min, max, nat_lt, nat_le, slice_index}
use Rattle.std.specs.Int.{bit_at, trailing_zeros}
use Rattle.std.proofs.lemmas.Bool.{cases_lt, eq-eqb, eqb-true, le-leb, lt-leb, lt-ltb, le-ltb, leb-true, ltb-true, and_from, and_left, and_right, and_parts}
use Rattle.std.proofs.lemmas.Nat.{and_le_r, one_shl}
use Rattle.std.proofs.lemmas.Nat.Bits.{bit_at_and, bit_at_or, bit_at-lt, bit_at-zero, bit_at-trailing_zeros, bit_at_mask_inside, bit_at_mask_below, bit_at_mask_above}
use Rattle.std.proofs.Math.Nat.{pow-le-pow_right}
use Rattle.std.proofs.lemmas.List.{get_or-set_same, get_or-set_other, get_or_past}
use Rattle.kx_laws.proofs.Booleans.{or_false}
use Rattle.purgatory_link.specs.inner.Taken.{is_set, is_taken, is_among}

-- whether a byte is one of the w at a place
pub inside : (at w k : ℕ) → at ≤ k → k < at + w → is_among at w k ≡ true
inside at w k a b = and_from (nat_le at k) (nat_lt k (at + w)) (le-leb at k a) (lt-ltb k (at + w) b)

outside_before : (at w k : ℕ) → k < at → is_among at w k ≡ false
outside_before at w k h = and_left (nat_le at k) (nat_lt k (at + w)) (lt-leb at k h)

outside_behind : (at w k : ℕ) → at + w ≤ k → is_among at w k ≡ false
outside_behind at w k h = and_right (nat_le at k) (nat_lt k (at + w)) (le-ltb k (at + w) h)

pub where_among : (at w k : ℕ) → is_among at w k ≡ true → (at ≤ k) × (k < at + w)
where_among at w k h = let p = and_parts (nat_le at k) (nat_lt k (at + w)) h in (leb-true at k p.0, ltb-true k (at + w) p.1)

-- 1 shifted by up to 64 is a power of 2 in 128 bits
shift_is_power : (k : ℕ) → k ≤ 64 → 1 * 2 ^ k % 2 ^ 128 ≡ 2 ^ k
shift_is_power k h = one_shl k 128 (omega (arith, h))

-- the low and the high end of the bits that a word has of the w bytes at a place
pub ends_rise : (first at w low high : ℕ) → low ≡ min (at - first) 64 → high ≡ min (at + w - first) 64 → 1 * 2 ^ low % 2 ^ 128 ≤ 1 * 2 ^ high % 2 ^ 128
ends_rise first at w low high l h =
    let rise : low ≤ high = omega (arith, l, h) in
    omega (arith, shift_is_power low (omega (arith, l)), shift_is_power high (omega (arith, h)), pow-le-pow_right {n = 2} (omega arith) rise)

pub mask_bits : (first at w low high i : ℕ) → low ≡ min (at - first) 64 → high ≡ min (at + w - first) 64 → i < 64 → is_set (1 * 2 ^ high % 2 ^ 128 - 1 * 2 ^ low % 2 ^ 128) i ≡ is_among at w (first + i)
mask_bits first at w low high i l h below =
    ap (λ n. is_set (n - 1 * 2 ^ low % 2 ^ 128) i) (shift_is_power high (omega (arith, h)))
    ∙ ap (λ n. is_set (2 ^ high - n) i) (shift_is_power low (omega (arith, l)))
    ∙ by (cases_lt i low) (cases_lt i high)
  where
    by : (i < low) ⊎ (low ≤ i) → (i < high) ⊎ (high ≤ i) → is_set (2 ^ high - 2 ^ low) i ≡ is_among at w (first + i)
    by (inl a) b = ap (λ n. n == 1) (bit_at_mask_below low high i a) ∙ sym (outside_before at w (first + i) (omega (arith, a, l)))
    by (inr a) (inl b) = ap (λ n. n == 1) (bit_at_mask_inside low high i a b) ∙ sym (inside at w (first + i) (omega (arith, a, l, below)) (omega (arith, b, h)))
    by (inr a) (inr b) = ap (λ n. n == 1) (bit_at_mask_above low high i b) ∙ sym (outside_behind at w (first + i) (omega (arith, b, h, below)))

-- a word and a mask that have a 1 in common, and those that have none
common : (a m : ℕ) → m < 2 ^ 64 → (bit_and a m ≡ 0 → ⊥) → (i : ℕ) × (i < 64) × (is_set a i ≡ true) × (is_set m i ≡ true)
common a m fits some =
    let n = bit_and a m in
    let i = trailing_zeros w64 n in
    let low = bit_at-trailing_zeros w64 n (more n some) (omega (arith, fits, and_le_r a m)) in
    let both : min (bit_at a i) (bit_at m i) ≡ 1 = sym (bit_at_and a m i) ∙ low.1 in
    (i, low.0, eq-eqb (bit_at a i) 1 (omega (arith, both, bit_at-lt a i)), eq-eqb (bit_at m i) 1 (omega (arith, both, bit_at-lt m i)))
  where
    more : (n : ℕ) → (n ≡ 0 → ⊥) → 0 < n
    more zero h = absurd (h refl)
    more (suc n) h = omega arith

apart : (a m i : ℕ) → bit_and a m ≡ 0 → is_set m i ≡ true → is_set a i ≡ false
apart a m i none is =
    let one = eqb-true (bit_at m i) 1 is in
    let both : min (bit_at a i) (bit_at m i) ≡ 0 = sym (bit_at_and a m i) ∙ ap (λ n. bit_at n i) none ∙ bit_at-zero i in
    ap (λ n. n == 1) (zero_is (bit_at a i) (bit_at m i) one both)
  where
    zero_is : (x y : ℕ) → y ≡ 1 → min x y ≡ 0 → x ≡ 0
    zero_is x y e h = omega (arith, e, h)

pub bit_of_union : (a m i : ℕ) → is_set (bit_or a m) i ≡ (is_set a i || is_set m i)
bit_of_union a m i = ap (λ n. n == 1) (bit_at_or a m i) ∙ either (bit_at a i) (bit_at m i) (bit_at-lt a i) (bit_at-lt m i)
  where
    either : (x y : ℕ) → x < 2 → y < 2 → (max x y == 1) ≡ ((x == 1) || (y == 1))
    either zero zero l h = refl
    either zero (suc zero) l h = refl
    either (suc zero) zero l h = refl
    either (suc zero) (suc zero) l h = refl
    either zero (suc (suc y)) l h = absurd (omega (arith, h))
    either (suc zero) (suc (suc y)) l h = absurd (omega (arith, h))
    either (suc (suc x)) y l h = absurd (omega (arith, l))

-- no byte of the w at a place has a bit that is 1 in the word of this index
abbrev pub IsFree : List ℕ → ℕ → ℕ → ℕ → Type 0
IsFree words index at w = (i : ℕ) → i < 64 → is_among at w (64 * index + i) ≡ true → is_set (slice_index words index) i ≡ false

pub free_by : (words : List ℕ) (index at w a m : ℕ) → a ≡ slice_index words index → ((i : ℕ) → i < 64 → is_set m i ≡ is_among at w (64 * index + i)) → bit_and a m ≡ 0 → IsFree words index at w
free_by words index at w a m word says none i l among = ap (λ n. is_set n i) (sym word) ∙ apart a m i none (says i l ∙ among)

pub free_past : (words : List ℕ) (index at w : ℕ) → length words ≤ index → IsFree words index at w
free_past words index at w past i l among = ap (λ n. is_set n i) (get_or_past words index 0 past) ∙ ap (λ n. n == 1) (bit_at-zero i)

pub free_more : (words : List ℕ) (index at w : ℕ) → IsFree words index at w
    → ((k : ℕ) → k < 64 * index → is_among at w k ≡ true → is_taken words k ≡ false)
    → (k : ℕ) → k < 64 * (index + 1) → is_among at w k ≡ true → is_taken words k ≡ false
free_more words index at w free before k l among = by (cases_lt k (64 * index))
  where
    by : (k < 64 * index) ⊎ (64 * index ≤ k) → is_taken words k ≡ false
    by (inl b) = before k b among
    by (inr b) =
        let here : k / 64 ≡ index = omega (arith, b, l) in
        let same : 64 * index + k % 64 ≡ k = omega (arith, here) in
        ap (λ j. is_set (slice_index words j) (k % 64)) here ∙ free (k % 64) (omega arith) (ap (is_among at w) same ∙ among)

-- one of them has
pub taken_by : (words : List ℕ) (index at w a m : ℕ) → a ≡ slice_index words index → m < 2 ^ 64 → ((i : ℕ) → i < 64 → is_set m i ≡ is_among at w (64 * index + i)) → (bit_and a m ≡ 0 → ⊥)
    → (k : ℕ) × (is_among at w k ≡ true) × (is_taken words k ≡ true)
taken_by words index at w a m is fits says some =
    let c = common a m fits some in
    let i = c.0 in
    let word : (64 * index + i) / 64 ≡ index = omega (arith, c.1) in
    let bit : (64 * index + i) % 64 ≡ i = omega (arith, c.1) in
    (64 * index + i, sym (says i c.1) ∙ c.3, ap (λ j. is_set (slice_index words j) ((64 * index + i) % 64)) word ∙ ap (is_set (slice_index words index)) bit ∙ ap (λ n. is_set n i) (sym is) ∙ c.2)

-- the bits of the words before this one have those of the bytes too, the others are as they were
pub record MarkedTo (index at w : ℕ) (old now : List ℕ) : Type 0 where
  pub before : (k : ℕ) → k < 64 * index → is_taken now k ≡ (is_taken old k || is_among at w k)
  pub behind : (k : ℕ) → 64 * index ≤ k → is_taken now k ≡ is_taken old k

pub marked_none : (at w : ℕ) (old : List ℕ) → MarkedTo (at / 64) at w old old
marked_none at w old = record {
  before = λ k l. sym (or_false (is_taken old k)) ∙ ap (λ b. is_taken old k || b) (sym (outside_before at w k (omega (arith, l))));
  behind = λ k l. refl;
}

pub marked_all : (index at w : ℕ) (old now : List ℕ) → at + w ≤ 64 * index → MarkedTo index at w old now → (k : ℕ) → is_taken now k ≡ (is_taken old k || is_among at w k)
marked_all index at w old now end is k = by (cases_lt k (64 * index))
  where
    by : (k < 64 * index) ⊎ (64 * index ≤ k) → is_taken now k ≡ (is_taken old k || is_among at w k)
    by (inl b) = is.before k b
    by (inr b) = is.behind k b ∙ sym (or_false (is_taken old k)) ∙ ap (λ m. is_taken old k || m) (sym (outside_behind at w k (omega (arith, b, end))))

pub marked_more : (index at w m : ℕ) (old now : List ℕ) → index < length now → ((i : ℕ) → i < 64 → is_set m i ≡ is_among at w (64 * index + i)) → MarkedTo index at w old now
    → MarkedTo (index + 1) at w old (set now index (bit_or (get_or now index 0) m))
marked_more index at w m old now within says is = record {
  before = λ k l. by k l (cases_lt k (64 * index));
  behind = λ k l. other k (omega (arith, l)) ∙ is.behind k (omega (arith, l));
}
  where
    word : ℕ
    word = get_or now index 0

    new : List ℕ
    new = set now index (bit_or word m)

    other : (k : ℕ) → (k / 64 ≡ index → ⊥) → is_taken new k ≡ is_taken now k
    other k h = ap (λ a. is_set a (k % 64)) (get_or-set_other now index (k / 64) (bit_or word m) 0 h)

    by : (k : ℕ) → k < 64 * (index + 1) → (k < 64 * index) ⊎ (64 * index ≤ k) → is_taken new k ≡ (is_taken old k || is_among at w k)
    by k l (inl b) = other k (omega (arith, b)) ∙ is.before k b
    by k l (inr b) =
        let i = k % 64 in
        let here : k / 64 ≡ index = omega (arith, b, l) in
        let same : 64 * index + k % 64 ≡ k = omega (arith, here) in
        let was : is_set word i ≡ is_taken old k = ap (λ j. is_set (get_or now j 0) i) (sym here) ∙ is.behind k b in
        let mine : is_set m i ≡ is_among at w k = says i (omega arith) ∙ ap (is_among at w) same in
        ap (λ j. is_set (get_or new j 0) i) here
        ∙ ap (λ a. is_set a i) (get_or-set_same now index (bit_or word m) 0 within)
        ∙ bit_of_union word m i
        ∙ ap (λ b. b || is_set m i) was
        ∙ ap (λ b. is_taken old k || b) mine
