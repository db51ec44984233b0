-- Where a number passes, some do.
use Rattle.std.proofs.Common.{◌≡◌, ◌<◌, ℕ, zero, suc, Bool, true, cond, sym, ap, ◌∙◌, arith, inl, inr}
use Rattle.std.proofs.lemmas.Bool.Decides.{eqb_tells}
use Rattle.kx_pages.specs.Spans.{passing}

pub one_passes : (f : ℕ → Bool) (k : ℕ) → f k ≡ true → (n : ℕ) → k < n → 0 < passing f n
unfolding passing
one_passes f k passes zero l = omega (arith, l)
one_passes f k passes (suc n) l =
    elim (eqb_tells k n) [
      | inl t ↦ let e : ◌≡◌ {A = ℕ} (cond (f n) 1 0) 1 = ap (λ b. cond b 1 0) (ap f (sym t.1) ∙ passes) in omega (arith, e)
      | inr t ↦ let h : 0 < passing f n = one_passes f k passes n (omega (arith, l, t.1)) in omega (arith, h)
    ]
