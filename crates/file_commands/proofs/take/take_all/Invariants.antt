use Rattle.std.proofs.Common.{◌≤◌, map, string_bytes}
use Rattle.std.specs.Vec.Iter.{into_iter_items}
use Rattle.file_commands.specs.inner.Calls.{file_of}
use Rattle.file_commands.specs.Files.{all_files, more_files}
use Rattle.file_commands.proofs.Steps.{Left}
use Rattle.file_commands.proofs.take.take_all.Given as goal

abbrev pub invariant-loop-name : goal.invariant-loop-name
invariant-loop-name g l = record {
  can : (goal.iterator-loop-name g).can_next l.name-iterator;
  finite : (goal.iterator-loop-name g).is_finite l.name-iterator;
  small : l.left ≤ l.fn.budget;
  rest : Left g.S.Shelf (all_files {R = g.row.R.Denot} l.fn.budget (map string_bytes l.fn.names.items)) l.fn.shelf (more_files l.left (map string_bytes (into_iter_items l.name-iterator)) (map file_of l.files.items)) l.shelf;
}
