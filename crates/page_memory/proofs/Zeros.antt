-- Bytes that are or-ed together.
use Rattle.std.proofs.Common.{◌≡◌, ℕ, ◌+◌, ◌≤◌, ◌<◌, List, ◌∷◌, length, get_or, drop, Bool, true, false, sym, ap, ◌∙◌, arith}
use Rattle.std.specs.Prelude.{◌==◌, ◌&&◌, bit_or}
use Rattle.std.specs.Int.Bits.{or_zero_l}
use Rattle.std.proofs.lemmas.Nat.{le_or_l, le_or_r}
use Rattle.std.proofs.lemmas.List.{drop_more}
use Rattle.std.proofs.lemmas.Bool.Decides.{nat_tests}
use Rattle.page_memory.specs.File.{is_all_zeros}

and_step : (x y z t : Bool) → x ≡ (y && z) → (x && t) ≡ (y && (z && t))
and_step x true z t h = ap (λ b. b && t) h
and_step x false z t h = ap (λ b. b && t) h

or_test : (a b r : ℕ) → a ≤ r → b ≤ r → (a ≡ 0 → r ≡ b) → (r == 0) ≡ ((a == 0) && (b == 0))
or_test a b r al bl h = grind (arith, nat_tests)

or_of_zero : (a b : ℕ) → a ≡ 0 → bit_or a b ≡ b
or_of_zero a b e = ap (λ x. bit_or x b) e ∙ or_zero_l b

pub zeros_step : (bits i x : ℕ) (xs : List ℕ) (all : Bool) → i < length xs → x ≡ get_or xs i 0 → ((bits == 0) && is_all_zeros (drop i xs)) ≡ all → ((bit_or bits x == 0) && is_all_zeros (drop (i + 1) xs)) ≡ all
zeros_step bits i x xs all l g h =
    and_step (bit_or bits x == 0) (bits == 0) (x == 0) (is_all_zeros (drop (i + 1) xs)) (or_test bits x (bit_or bits x) (le_or_l bits x) (le_or_r bits x) (or_of_zero bits x))
    ∙ ap (λ ys. (bits == 0) && is_all_zeros ys) (ap (λ y. y ∷ drop (i + 1) xs) g ∙ sym (drop_more xs i 0 l))
    ∙ h
