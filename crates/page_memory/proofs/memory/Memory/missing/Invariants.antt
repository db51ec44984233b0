use Rattle.std.proofs.Common.{ℕ, ◌<◌, ◌≤◌, ◌^◌}
use Rattle.std.specs.Prelude.{slice_index_or}
use Rattle.page_memory.proofs.memory.Memory.missing.Given as goal

abbrev pub invariant-loop-page : goal.invariant-loop-page
invariant-loop-page l = (l.missing ≤ l.page-index) × ((k : ℕ) (d : ℕ) → k < l.page-index → slice_index_or l.pages k d < 2 ^ 34)
