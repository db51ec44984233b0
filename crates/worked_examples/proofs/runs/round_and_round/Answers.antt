-- By induction: after the head, each step leads to where it began.
use Rattle.std.proofs.Common.{◌≡◌, ◌+◌, ℕ, zero, suc, [], ◌∷◌, refl, ap, ◌∙◌, arith}
use Rattle.kx_pages.specs.declared.image.Mode.TheVariants.{Plain}
use Rattle.page_memory.specs.Contents.{Contents, at}
use Rattle.page_memory.specs.Memory.{word}
use Rattle.relocate_machine.specs.declared.step.Step.TheVariants as steps
use Rattle.relocate_machine.specs.declared.step.Outcome.TheVariants.{Running}
use Rattle.relocate_machine.specs.Machine.{State, kind_of, step_of, start_of}
use Rattle.relocate_machine.specs.Run.{run_from}
use Rattle.worked_examples.specs.Lists.{HasWords}
use Rattle.worked_examples.specs.Runs.{ComesOut}
use Rattle.worked_examples.proofs.Stepping.{standing, reads, goes, stops, comes_out}
use Rattle.worked_examples.proofs.runs.round_and_round.Goals as goal

-- where the machine stands after each step but the first
abbrev round : Contents → State
round m = standing Plain m 0x20000 0

stays : (m : Contents) → word (at m) 0x20000 ≡ 0x20002 → (n k total : ℕ) → k + n ≡ total → run_from n k (round m) ≡ (round m, Running total)
unfolding kind_of
stays m w zero k total e = stops k (round m) ∙ ap (λ j. (round m, Running j)) (omega (arith, e))
stays m w (suc n) k total e = goes n k (round m) (round m) _ (reads Plain m (at m) 0x20000 0 0x20002 refl refl w) (stays m w n (k + 1) total (omega (arith, e)))

-- the first step
abbrev start : Contents → State
start m = record { machine = start_of 0x20002 Plain; memory = m }

first : (m : Contents) → step_of (start m) ≡ (round m, steps.Went)
unfolding kind_of step_of
first m = refl

run : (m : Contents) → HasWords (at m) 0x20000 (0x20002 ∷ []) → (n : ℕ) → ComesOut m 0x20002 Plain n (Running n) (at m)
run m w zero = comes_out m 0x20002 Plain 0 (Running 0) (at m) (start m) (stops 0 (start m)) refl
run m w (suc n) = comes_out m 0x20002 Plain (suc n) (Running (suc n)) (at m) (round m) (goes n 0 (start m) (round m) (round m, Running (suc n)) (first m) (stays m w.0 n 1 (suc n) (omega arith))) refl

pub returns-clause-run : goal.returns-clause-run
returns-clause-run c = run

pub returns-clause-thousand : goal.returns-clause-thousand
returns-clause-thousand c = λ m w. run m w 1000
