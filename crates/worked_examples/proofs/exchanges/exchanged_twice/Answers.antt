-- By cases on the page.
use Rattle.std.proofs.Common.{◌≡◌, ℕ, refl, subst, inl, inr, false}
use Rattle.std.specs.Prelude.{◌≢◌, eqb}
use Rattle.std.proofs.lemmas.Bool.Decides.{eqb_tells}
use Rattle.kx_pages.specs.Bytes.{Mem}
use Rattle.load_states.specs.Exchange.{exchange}
use Rattle.worked_examples.specs.Runs.{one_pair_at_home}
use Rattle.worked_examples.proofs.exchanges.exchanged_twice.Goals as goal

abbrev Restored : Mem → ℕ → Type 0
Restored M p = exchange (exchange M one_pair_at_home 0x11) one_pair_at_home 0x11 p ≡ M p

other : (M : Mem) (p : ℕ) → eqb p 0x11 ≡ false → eqb 2 p ≡ false → eqb 3 p ≡ false → eqb 0x13 p ≡ false → Restored M p
other M p a b c d = simp (a, b, c, d) refl

restores : (M : Mem) (p : ℕ) → p ≢ 0x11 → Restored M p
restores M p apart =
    elim (eqb_tells p 0x11) [
      | inl t ↦ absurd (apart t.1)
      | inr t ↦ elim (eqb_tells 2 p) [
        | inl u ↦ subst (Restored M) u.1 refl
        | inr u ↦ elim (eqb_tells 3 p) [
          | inl v ↦ subst (Restored M) v.1 refl
          | inr v ↦ elim (eqb_tells 0x13 p) [
            | inl x ↦ subst (Restored M) x.1 refl
            | inr x ↦ other M p t.0 u.0 v.0 x.0
          ]
        ]
      ]
    ]

pub returns-clause-restored : goal.returns-clause-restored
returns-clause-restored c = restores

pub returns-clause-swap_page : goal.returns-clause-swap_page
returns-clause-swap_page c = λ M. refl
