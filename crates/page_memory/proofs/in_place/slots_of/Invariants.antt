use Rattle.std.proofs.Common.{◌≡◌, ◌++◌, drop}
use Rattle.page_memory.specs.inner.InPlace.{slots_of}
use Rattle.page_memory.proofs.in_place.slots_of.Given as goal

abbrev pub invariant-loop-place : goal.invariant-loop-place
invariant-loop-place l = l.slots.items ++ slots_of (drop l.place-index l.pages) ≡ slots_of l.fn.pages
