-- Laws of Booleans and of comparing.
use Rattle.std.proofs.Common.{◌≡◌, Bool, true, false, refl, is_eq}
use Rattle.std.specs.Prelude.{ℕ, ◌<◌, not, ◌&&◌, ◌||◌, ◌==◌}
use Rattle.std.proofs.Common.{sym, arith}
use Rattle.std.proofs.lemmas.Bool.Decides.{nat_tests}
use Rattle.std.specs.declared.cmp.Ordering.{Ordering}
use Rattle.std.specs.declared.cmp.Ordering.TheVariants.{Less, Equal, Greater}

pub true_false : true ≡ false → ⊥
true_false h = cc

pub not_false : (b : Bool) → not b ≡ false → b ≡ true
not_false true h = refl
not_false false h = cc

pub not_true : (b : Bool) → not b ≡ true → b ≡ false
not_true false h = refl
not_true true h = cc

pub or_false : (b : Bool) → (b || false) ≡ b
or_false true = refl
or_false false = refl

pub or_true : (b : Bool) → (b || true) ≡ true
or_true true = refl
or_true false = refl

-- a part that is false falls away
pub or_first : (a b : Bool) → b ≡ false → (a || b) ≡ a
or_first true b h = refl
or_first false b h = h

pub or_second : (a b : Bool) → a ≡ false → (a || b) ≡ b
or_second true b h = cc
or_second false b h = refl

pub and_true : (b : Bool) → (b && true) ≡ b
and_true true = refl
and_true false = refl

pub and_parts : (a b : Bool) → (a && b) ≡ true → (a ≡ true) × (b ≡ true)
and_parts true true h = (refl, refl)
and_parts true false h = cc
and_parts false b h = cc

pub or_shift : (a b c : Bool) → ((a || b) || c) ≡ (a || (b || c))
or_shift true b c = refl
or_shift false b c = refl

-- tests that follow from each other are one test
pub same_truth : (a b : Bool) → (a ≡ true → b ≡ true) → (b ≡ true → a ≡ true) → a ≡ b
same_truth true b f g = sym (f refl)
same_truth false true f g = g refl
same_truth false false f g = refl

-- what is not 0 is above it
pub is_above_zero : (n : ℕ) → false ≡ (n == 0) → 0 < n
is_above_zero n h = grind (arith, nat_tests)

-- what is found equal is equal
pub Equal-from_is_eq : (r : Ordering) → is_eq r ≡ true → r ≡ Equal
Equal-from_is_eq Less h = cc
Equal-from_is_eq Equal h = refl
Equal-from_is_eq Greater h = cc

-- what is not equal is not found equal
pub is_eq-false : (r : Ordering) → (r ≡ Equal → ⊥) → is_eq r ≡ false
is_eq-false Less h = refl
is_eq-false Equal h = absurd (h refl)
is_eq-false Greater h = refl
