-- Runs of entries that pass a test, one byte more.
use Rattle.std.proofs.Common.{◌≡◌, ℕ, zero, suc, ◌+◌, ◌-◌, ◌*◌, ◌<◌, ◌≤◌, ◌++◌, ◌∷◌, List, [], length, get_or, Bool, true, false, Some, refl, sym, ap, ◌∙◌, subst, inl, inr, arith}
use Rattle.std.proofs.lemmas.Bool.{cases_lt}
use Rattle.std.proofs.lemmas.List.{length_push, get_or_push, get_or_append_left}
use Rattle.std.specs.List.{slice_get}
use Rattle.std.proofs.lemmas.Option.{slice_get_within, get_or_from_slice_get}
use Rattle.elf_image.specs.inner.Runs.{Runs, AreRuns}

pub none_noted : (test : ℕ → Bool) (r : Runs) → r.lengths ≡ [] → AreRuns test r
none_noted test r none = record { each = λ i k below few. absurd (let long = ap length none in omega (arith, long, below)) }

-- the run of the next byte is no longer than that of the entry behind it and this entry
record Next (passes : Bool) (ls : List ℕ) (n : ℕ) : Type 0 where
  fails : passes ≡ false → n ≡ 0
  few : length ls < 24 → n ≤ 1
  many : 24 ≤ length ls → n ≤ get_or ls (length ls - 24) 0 + 1

at_next : (test : ℕ → Bool) (r : Runs) (passes : Bool) (n k : ℕ) → length r.lengths < r.end → AreRuns test r → (passes ≡ true → test (r.end - 1 - length r.lengths) ≡ true) → Next passes r.lengths n → k < n → test (r.end - 1 - length r.lengths + 24 * k) ≡ true
at_next test r false n k room are here next below = let none = next.fails refl in absurd (omega (arith, none, below))
at_next test r true n zero room are here next below = let e : r.end - 1 - length r.lengths ≡ r.end - 1 - length r.lengths + 24 * 0 = omega arith in subst (λ p. test p ≡ true) e (here refl)
at_next test r true n (suc k) room are here next below = elim (cases_lt (length r.lengths) 24) [
  | inl l ↦ let few = next.few l in absurd (omega (arith, few, below))
  | inr l ↦
      let many = next.many l in
      let on : r.end - 1 - (length r.lengths - 24) + 24 * k ≡ r.end - 1 - length r.lengths + 24 * suc k = omega (arith, l, room) in
      subst (λ p. test p ≡ true) on (are.each (length r.lengths - 24) k (omega (arith, l)) (omega (arith, many, below)))
]

pub one_noted : (test : ℕ → Bool) (r new : Runs) (passes : Bool) (n : ℕ) → length r.lengths < r.end → new.end ≡ r.end → new.lengths ≡ r.lengths ++ n ∷ [] → (passes ≡ false → n ≡ 0) → (length r.lengths < 24 → n ≤ 1) → (24 ≤ length r.lengths → n ≤ get_or r.lengths (length r.lengths - 24) 0 + 1) → AreRuns test r → (passes ≡ true → test (r.end - 1 - length r.lengths) ≡ true) → AreRuns test new
one_noted test r new passes n room end is fails few many are here = record { each = λ i k below run. by i k below run }
  where
    next : Next passes r.lengths n
    next = record { fails = fails; few = few; many = many }

    by : (i k : ℕ) → i < length new.lengths → k < get_or new.lengths i 0 → test (new.end - 1 - i + 24 * k) ≡ true
    by i k below run =
        let long = ap length is ∙ length_push r.lengths n in
        let seen = ap (λ l. get_or l i 0) is in
        let same : r.end - 1 - i + 24 * k ≡ new.end - 1 - i + 24 * k = ap (λ m. m - 1 - i + 24 * k) (sym end) in
        subst (λ p. test p ≡ true) same (elim (cases_lt i (length r.lengths)) [
          | inl l ↦ let old = get_or_append_left r.lengths (n ∷ []) 0 i l in are.each i k l (omega (arith, seen, old, run))
          | inr l ↦
              let last : i ≡ length r.lengths = omega (arith, l, below, long) in
              let new_one = get_or_push r.lengths n 0 i (sym last) in
              subst (λ j. test (r.end - 1 - j + 24 * k) ≡ true) (sym last) (at_next test r passes n k room are here next (omega (arith, seen, new_one, run)))
        ])

-- what is noted of a byte
pub noted_at : (test : ℕ → Bool) (r : Runs) (xs : List ℕ) (end at k n : ℕ) → end ≡ r.end → xs ≡ r.lengths → at < end → slice_get xs (end - 1 - at) ≡ Some n → AreRuns test r → k < n → test (at + 24 * k) ≡ true
noted_at test r xs end at k n same is below there are few =
    let i = end - 1 - at in
    let within : i < length r.lengths = subst (λ l. i < length l) is (slice_get_within xs i n there) in
    let noted : n ≡ get_or r.lengths i 0 = sym (get_or_from_slice_get xs i n 0 there) ∙ ap (λ l. get_or l i 0) is in
    let on : r.end - 1 - i + 24 * k ≡ at + 24 * k = omega (arith, below, same) in
    subst (λ p. test p ≡ true) on (are.each i k within (omega (arith, noted, few)))
