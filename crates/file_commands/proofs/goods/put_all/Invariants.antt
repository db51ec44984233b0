use Rattle.std.proofs.Common.{map}
use Rattle.std.specs.Vec.Iter.{into_iter_items}
use Rattle.file_commands.specs.inner.Calls.{file_of}
use Rattle.file_commands.proofs.Puts.{Between}
use Rattle.file_commands.proofs.goods.put_all.Given as goal

abbrev pub invariant-loop-file : goal.invariant-loop-file
invariant-loop-file g l = record {
  can : (goal.iterator-loop-file g).can_next l.file-iterator;
  finite : (goal.iterator-loop-file g).is_finite l.file-iterator;
  between : Between g.S.Shelf l.fn.shelf l.shelf (map file_of (into_iter_items l.file-iterator)) (map file_of l.fn.outputs.items);
}
