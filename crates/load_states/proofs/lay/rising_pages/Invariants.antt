use Rattle.std.proofs.Common.{◌≡◌, take}
use Rattle.load_states.specs.inner.Laying.{pages_of_spans}
use Rattle.load_states.proofs.lay.rising_pages.Given as goal

abbrev pub invariant-loop-i : goal.invariant-loop-i
invariant-loop-i l = l.pages.items ≡ pages_of_spans (take l.i l.set)
