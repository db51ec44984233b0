use Rattle.std.proofs.Common.{◌≡◌, ◌≢◌, ◌<◌, ◌≤◌, ◌^◌, ℕ, Bool, true, false, List, length, get_or, subst, arith, rules, refl, Some, None, nat_lt, nat_le}
use Rattle.std.specs.Str.Parse.{IsNumeral, digits_value, without_leading_plus}
use Rattle.std.proofs.lemmas.Int.Digits.{digits_value-lt}
use Rattle.std.proofs.lemmas.Str.Parse.{without_leading_plus_none}
use Rattle.std.proofs.Math.Nat.{pow-le-pow_right}
use Rattle.clap.proofs.WalkLemmas.{both}
use Rattle.kexec_words.specs.Numbers.{is_number, number_of}
use Rattle.kexec_words.proofs.Digits.{all_to, all_from}
use Rattle.kexec_words.proofs.numbers.number_in.Goals as goal

-- the number that is read, where no plus leads
digits_are_read : (base most : ℕ) (bs : List ℕ) (n : ℕ) → get_or bs 0 0 ≢ 43 → length bs ≤ most
    → (IsNumeral base (without_leading_plus bs) × (digits_value base (without_leading_plus bs) < 2 ^ 64)) × (n ≡ digits_value base (without_leading_plus bs))
    → (IsNumeral base bs × (length bs ≤ most)) × (n ≡ digits_value base bs)
digits_are_read base most bs n ne short h =
    let same : without_leading_plus bs ≡ bs = without_leading_plus_none bs ne in
    let there : ((IsNumeral base bs) × (digits_value base bs < 2 ^ 64)) × (n ≡ digits_value base bs) =
    subst (λ (t : List ℕ). (IsNumeral base t × (digits_value base t < 2 ^ 64)) × (n ≡ digits_value base t)) same h in
    ((there.0.0, short), there.1)

refuses : (base most : ℕ) (bs : List ℕ) → 2 ≤ base → base ^ most ≤ 2 ^ 64 → get_or bs 0 0 ≢ 43
    → ((IsNumeral base (without_leading_plus bs) × (digits_value base (without_leading_plus bs) < 2 ^ 64)) → ⊥)
    → (IsNumeral base bs × (length bs ≤ most)) → ⊥
refuses base most bs two fits ne h p =
    let same : without_leading_plus bs ≡ bs = without_leading_plus_none bs ne in
    let not : (IsNumeral base bs × (digits_value base bs < 2 ^ 64)) → ⊥ = subst (λ (t : List ℕ). (IsNumeral base t × (digits_value base t < 2 ^ 64)) → ⊥) same h in
    let below : digits_value base bs < base ^ length bs = digits_value-lt base bs p.0.1 in
    let some : 0 < base = omega (arith, two) in
    let longest : base ^ length bs ≤ base ^ most = pow-le-pow_right some p.1 in
    not (p.0, omega (arith, below, longest, fits))

number_yes : (base most : ℕ) (bs : List ℕ) (n : ℕ) → (IsNumeral base bs × (length bs ≤ most)) × (n ≡ digits_value base bs) → Some n ≡ number_of base most bs
number_yes base most bs n h =
    let one : nat_lt 0 (length bs) ≡ true = search (rules, h.0.0.0) in
    let two : nat_le (length bs) most ≡ true = search (rules, h.0.1) in
    rw (one, two, all_to base bs h.0.0.1, h.1) refl

number_no : (base most : ℕ) (bs : List ℕ) → ((IsNumeral base bs × (length bs ≤ most)) → ⊥) → None ≡ number_of base most bs
number_no base most bs not_number = go (is_number base most bs) refl
  where
    go : (b : Bool) → is_number base most bs ≡ b → None ≡ number_of base most bs
    go false e = rw e refl
    go true e =
        let p = both _ _ e in
        let q = both _ _ p.1 in
        absurd (not_number ((search (rules, p.0), all_from base bs q.1), search (rules, q.0)))

pub returns-in-Ok : goal.returns-in-Ok
returns-in-Ok c = number_yes _ _ _ _ (digits_are_read _ _ c.args.text.now c.in-Ok.number (rw c.as_bytes.ensures.value at c.if-as_bytes-eq43.false) (omega arith) c.in-Ok.ensures.value)

pub returns-in-Err : goal.returns-in-Err
returns-in-Err c = number_no _ _ _ (refuses _ _ c.args.text.now c.requires.radix.0 c.requires.fits (rw c.as_bytes.ensures.value at c.if-as_bytes-eq43.false) c.in-Err.ensures.value)
