use Rattle.std.proofs.Common.{◌≡◌, ◌-◌, ◌≤◌, false}
use Rattle.std.specs.Prelude.{IfSome}
use Rattle.page_memory.specs.inner.Contents.{IsHeld}
use Rattle.relocate_machine.specs.declared.step.Outcome.TheVariants.{Running}
use Rattle.relocate_machine.specs.Run.{run_of}
use Rattle.relocate_machine.proofs.running.run.Given as goal

-- k steps of the run left this
abbrev pub invariant-loop-k : goal.invariant-loop-k
invariant-loop-k l = record {
  within : l.k ≤ l.limit;
  held_swap : IfSome l.held_swap (λ p. IsHeld l.memory p);
  running : l.machine.ended ≡ false;
  so_far : run_of l.fn.memory l.head l.fn.mode l.k ≡ (record { machine = l.machine; memory = l.memory }, Running l.k);
}

abbrev pub decreases-loop-k : goal.decreases-loop-k
decreases-loop-k l = l.limit - l.k
