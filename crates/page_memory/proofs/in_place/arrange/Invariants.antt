use Rattle.std.proofs.Common.{length}
use Rattle.page_memory.specs.inner.InPlace.{AreOwned, StillHold}
use Rattle.page_memory.proofs.in_place.arrange.Given as goal

abbrev pub invariant-loop-k : goal.invariant-loop-k
invariant-loop-k l = record {
  owned : AreOwned l.slots l.owners l.k;
  holds : StillHold l.fn.frames l.fn.owners l.frames l.owners (length l.fn.slots);
}
