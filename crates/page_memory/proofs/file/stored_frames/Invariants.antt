use Rattle.std.proofs.Common.{◌≡◌, ◌++◌, ◌+◌, ◌≤◌, length}
use Rattle.std.specs.List.{AllByRecursion}
use Rattle.page_memory.proofs.Stored.{kept_in}
use Rattle.page_memory.proofs.file.stored_frames.Given as goal

abbrev pub invariant-loop-p : goal.invariant-loop-p
invariant-loop-p l = record {
  inside : AllByRecursion (λ e. e.1 + 4096 ≤ length l.frames) l.p-iterator;
  kept : l.stored.items ++ kept_in l.frames l.p-iterator ≡ kept_in l.frames l.table.places.entries;
}
