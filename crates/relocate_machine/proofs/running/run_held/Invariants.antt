use Rattle.std.proofs.Common.{◌≡◌, ◌-◌, ◌≤◌, false}
use Rattle.relocate_machine.specs.declared.step.Outcome.TheVariants.{Running}
use Rattle.relocate_machine.specs.Machine.{State}
use Rattle.relocate_machine.specs.Run.{run_of}
use Rattle.relocate_machine.specs.inner.Run.{HeldFrom}
use Rattle.relocate_machine.proofs.running.run_held.Given as goal

-- k steps of the run left this
abbrev pub invariant-loop-k : goal.invariant-loop-k
invariant-loop-k l = let s : State = record { machine = l.machine; memory = l.memory } in record {
  within : l.k ≤ l.limit;
  running : l.machine.ended ≡ false;
  held : HeldFrom (l.limit - l.k) s;
  so_far : run_of l.fn.memory l.head l.fn.mode l.k ≡ (s, Running l.k);
}

abbrev pub decreases-loop-k : goal.decreases-loop-k
decreases-loop-k l = l.limit - l.k
