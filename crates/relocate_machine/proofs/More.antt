-- A run that goes on where a shorter one stopped.
use Rattle.std.proofs.Common.{◌≡◌, ℕ, zero, suc, ◌+◌, sym, ap, ◌∙◌, arith}
use Rattle.relocate_machine.specs.declared.step.Step.{Step}
use Rattle.relocate_machine.specs.declared.step.Step.TheVariants as steps
use Rattle.relocate_machine.specs.declared.step.Outcome.{Outcome}
use Rattle.relocate_machine.specs.declared.step.Outcome.TheVariants as outcomes
use Rattle.relocate_machine.specs.Machine.{State, step_of}
use Rattle.relocate_machine.specs.Run.{run_from, run_after}

more_after : (p : State × Step) (k rest j x : ℕ) (s : State) → run_after j (λ t. run_from k (j + 1) t) p ≡ (s, outcomes.Running x) → ((t : State) → run_from k (j + 1) t ≡ (s, outcomes.Running x) → run_from (k + rest) (j + 1) t ≡ run_from rest (j + 1 + k) s) → run_after j (λ t. run_from (k + rest) (j + 1) t) p ≡ run_from rest (j + 1 + k) s
more_after (t, steps.Went) k rest j x s h next = next t h
more_after (t, steps.Ended) k rest j x s h next = let e : outcomes.Done (j + 1) ≡ outcomes.Running x = ap (λ r. r.1) h in absurd (cc)
more_after (t, steps.Off a) k rest j x s h next = let e : outcomes.Off a j ≡ outcomes.Running x = ap (λ r. r.1) h in absurd (cc)

stopped_same : (s t : State) (j x : ℕ) → ◌≡◌ {A = State × Outcome} (s, outcomes.Running j) (t, outcomes.Running x) → s ≡ t
stopped_same s t j x h = ap (λ r. r.0) h

pub run_from-more : (k rest j x : ℕ) (s0 s : State) → run_from k j s0 ≡ (s, outcomes.Running x) → run_from (k + rest) j s0 ≡ run_from rest (j + k) s
unfolding run_from
run_from-more zero rest j x s0 s h =
    let a : zero + rest ≡ rest = omega arith in
    let b : j ≡ j + zero = omega arith in
    ap (λ n. run_from n j s0) a ∙ ap (λ k. run_from rest k s0) b ∙ ap (run_from rest (j + zero)) (stopped_same s0 s j x h)
run_from-more (suc k) rest j x s0 s h =
    let a : suc k + rest ≡ suc (k + rest) = omega arith in
    let b : j + 1 + k ≡ j + suc k = omega arith in
    ap (λ n. run_from n j s0) a
    ∙ more_after (step_of s0) k rest j x s h (λ t e. run_from-more k rest (j + 1) x t s e)
    ∙ ap (λ n. run_from rest n s) b

-- a run of at most `limit` steps whose step after k of them ended it
pub ends_after : (limit k r a : ℕ) (s0 s : State) → limit ≡ k + suc r → run_from k 0 s0 ≡ (s, outcomes.Running k) → (p : State × Step) → p ≡ step_of s → run_from limit 0 s0 ≡ run_after k (λ t. run_from r (k + 1) t) p
unfolding run_from
ends_after limit k r a s0 s split so_far p is =
    let z : 0 + k ≡ k = omega arith in
    ap (λ n. run_from n 0 s0) split ∙ run_from-more k (suc r) 0 k s0 s so_far ∙ ap (λ k. run_from (suc r) k s) z ∙ ap (run_after k (λ t. run_from r (k + 1) t)) (sym is)

pub goes_after : (k : ℕ) (s0 s u : State) → run_from k 0 s0 ≡ (s, outcomes.Running k) → (u, steps.Went) ≡ step_of s → run_from (k + 1) 0 s0 ≡ (u, outcomes.Running (k + 1))
unfolding run_from
goes_after k s0 s u so_far is = ends_after (k + 1) k 0 0 s0 s (omega arith) so_far (u, steps.Went) is
