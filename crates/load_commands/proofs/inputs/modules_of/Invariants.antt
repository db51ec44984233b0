use Rattle.std.proofs.Common.{◌≡◌, ◌++◌, map}
use Rattle.std.specs.Vec.Iter.{into_iter_items}
use Rattle.file_commands.specs.inner.Calls.{file_of}
use Rattle.load_commands.specs.inner.Views.{file_in}
use Rattle.load_commands.proofs.inputs.modules_of.Given as goal

abbrev pub invariant-loop-file : goal.invariant-loop-file
invariant-loop-file l = record {
  can : (goal.iterator-loop-file).can_next l.file-iterator;
  finite : (goal.iterator-loop-file).is_finite l.file-iterator;
  made : map file_in l.modules.items ++ map file_of (into_iter_items l.file-iterator) ≡ map file_of l.fn.files.items;
}
