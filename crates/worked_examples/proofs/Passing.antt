-- Counts of numbers that pass.
use Rattle.std.proofs.Common.{◌≡◌, ◌+◌, ◌<◌, ℕ, zero, suc, Bool, true, false, cond, refl, sym, ap, ◌∙◌, arith, inl, inr}
use Rattle.std.proofs.lemmas.Bool.Decides.{eqb_tells}
use Rattle.kx_pages.specs.Spans.{passing}

pub none_passes : (f : ℕ → Bool) → ((k : ℕ) → f k ≡ false) → (n : ℕ) → passing f n ≡ 0
unfolding passing
none_passes f fails zero = refl
none_passes f fails (suc n) = ap (λ b. cond b 1 0 + passing f n) (fails n) ∙ omega (arith, none_passes f fails n)

pub one_passes : (f : ℕ → Bool) (k : ℕ) → f k ≡ true → (n : ℕ) → k < n → 0 < passing f n
unfolding passing
one_passes f k passes zero l = omega (arith, l)
one_passes f k passes (suc n) l =
    elim (eqb_tells k n) [
      | inl t ↦ let e : ◌≡◌ {A = ℕ} (cond (f n) 1 0) 1 = ap (λ b. cond b 1 0) (ap f (sym t.1) ∙ passes) in omega (arith, e)
      | inr t ↦ let h : 0 < passing f n = one_passes f k passes n (omega (arith, l, t.1)) in omega (arith, h)
    ]
