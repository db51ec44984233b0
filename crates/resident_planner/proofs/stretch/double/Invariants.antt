use Rattle.std.proofs.Common.{◌≡◌, ◌+◌, ◌<◌, ℕ, List, length, get_or, Option}
use Rattle.resident_planner.specs.declared.stretch.Stretch.{Stretch}
use Rattle.resident_planner.specs.inner.Stretches.{AreStretches, IsStretch}
use Rattle.resident_planner.proofs.stretch.double.Given as goal

abbrev pub invariant-loop-stretch : goal.invariant-loop-stretch
invariant-loop-stretch l = record {
  size : length l.longer.items ≡ l.stretch-index;
  each : (D : List ℕ) (s : ℕ → Option ℕ) (n : ℕ) → AreStretches D s n l.stretches → (i : ℕ) (d : Stretch) → i < l.stretch-index → IsStretch D s (n + n) (get_or D i 0) (get_or l.longer.items i d);
}
