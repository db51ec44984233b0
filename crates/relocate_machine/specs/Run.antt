-- A run of a number of steps (this project's own).
use Rattle.std.specs.Prelude.{ℕ, zero, suc, ◌+◌}
use Rattle.kx_pages.specs.declared.image.Mode.{Mode}
use Rattle.page_memory.specs.Contents.{Contents}
use Rattle.relocate_machine.specs.declared.step.Step.{Step}
use Rattle.relocate_machine.specs.declared.step.Step.TheVariants as steps
use Rattle.relocate_machine.specs.declared.step.Outcome.{Outcome}
use Rattle.relocate_machine.specs.declared.step.Outcome.TheVariants as outcomes
use Rattle.relocate_machine.specs.Machine.{State, step_of, start_at}

-- what follows a step, where `rest` follows a step that went on
abbrev pub run_after : ℕ → (State → State × Outcome) → State × Step → State × Outcome
run_after k rest (s, steps.Went) = rest s
run_after k rest (s, steps.Ended) = (s, outcomes.Done (k + 1))
run_after k rest (s, steps.Off a) = (s, outcomes.Off a k)

-- the state after at most n more steps, where k were taken, and how the run came out
unfoldable pub run_from : ℕ → ℕ → State → State × Outcome
run_from zero k s = (s, outcomes.Running k)
run_from (suc n) k s = run_after k (λ t. run_from n (k + 1) t) (step_of s)

-- the run of a list, by at most `limit` steps
abbrev pub run_of : Contents → ℕ → Mode → ℕ → State × Outcome
run_of memory head mode limit = run_from limit 0 (start_at memory head mode)
