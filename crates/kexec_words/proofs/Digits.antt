-- Digits, as a test and as a fact.
use Rattle.std.proofs.Common.{◌≡◌, ◌<◌, ◌≤◌, ◌^◌, ◌&&◌, ℕ, Bool, true, false, List, [], ◌∷◌, length, arith, rules, refl, IfSome, nat_lt, nat_le}
use Rattle.std.specs.List.{list_all}
use Rattle.std.specs.Char.{digit_value}
use Rattle.std.specs.Str.Parse.{AllDigits, digits_value}
use Rattle.std.proofs.lemmas.Int.Digits.{digits_value-lt}
use Rattle.std.proofs.Math.Nat.{pow-le-pow_right}
use Rattle.clap.proofs.WalkLemmas.{both}
use Rattle.kexec_words.specs.Numbers.{is_number, number_of}

pub all_to : (base : ℕ) (ds : List ℕ) → AllDigits base ds → list_all (λ d. nat_lt (digit_value d) base) ds ≡ true
all_to base [] h = refl
all_to base (c ∷ cs) h = let rest = all_to base cs h.1 in let one : nat_lt (digit_value c) base ≡ true = search (rules, h.0) in rw (one, rest) refl

pub all_from : (base : ℕ) (ds : List ℕ) → list_all (λ d. nat_lt (digit_value d) base) ds ≡ true → AllDigits base ds
all_from base [] h = tt
all_from base (c ∷ cs) h = let p = both _ _ h in (search (rules, p.0), all_from base cs p.1)

-- a number of `most` digits is below the base to this power
pub number_has : (base most : ℕ) (t : List ℕ) → 2 ≤ base → IfSome (number_of base most t) (λ n. n < base ^ most)
number_has base most t two = go (is_number base most t) refl
  where
    go : (b : Bool) → is_number base most t ≡ b → IfSome (number_of base most t) (λ n. n < base ^ most)
    go false e = rw e tt
    go true e =
        let p = both (nat_lt 0 (length t)) (nat_le (length t) most && list_all (λ d. nat_lt (digit_value d) base) t) e in
        let q = both (nat_le (length t) most) (list_all (λ d. nat_lt (digit_value d) base) t) p.1 in
        let below : digits_value base t < base ^ length t = digits_value-lt base t (all_from base t q.1) in
        let some : 0 < base = omega (arith, two) in
        let short : length t ≤ most = search (rules, q.0) in
        let longest : base ^ length t ≤ base ^ most = pow-le-pow_right some short in
        let last : digits_value base t < base ^ most = omega (arith, below, longest) in
        rw e last
