use Rattle.std.proofs.Common.{ℕ, ◌≤◌, ◌<◌}
use Rattle.page_memory.specs.Contents.{at}
use Rattle.page_memory.specs.inner.Contents.{IsHeld}
use Rattle.page_memory.specs.Memory.{Agree}
use Rattle.sample_load.specs.Samples.{filled_before}
use Rattle.sample_load.proofs.memory.sample_memory.Given as goal

abbrev pub invariant-loop-number : goal.invariant-loop-number
invariant-loop-number l = record {
  held : (q : ℕ) → 4096 ≤ q → q < 20480 → IsHeld l.memory q;
  filled : Agree (at l.memory) (filled_before l.number);
}
