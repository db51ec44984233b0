use Rattle.std.proofs.Common.{◌≡◌, ◌<◌, ℕ, length}
use Rattle.std.specs.Prelude.{slice_index}
use Rattle.page_memory.specs.inner.InPlace.{AreSlotsOf}
use Rattle.page_memory.proofs.in_place.owners_of.Given as goal

abbrev pub invariant-loop-j : goal.invariant-loop-j
invariant-loop-j l = record {
  long : length l.owners.items ≡ l.count;
  owned : (a : ℕ) → a < l.j → slice_index l.owners.items (slice_index l.slots a) ≡ a;
  back : AreSlotsOf l.slots l.owners.items;
}
