use Rattle.std.proofs.Common.{◌≡◌, drop}
use Rattle.segments.specs.inner.Values.{wanted}
use Rattle.segments.proofs.list.Segments.wanted.Given as goal

abbrev pub invariant-loop-s : goal.invariant-loop-s
invariant-loop-s l = wanted (drop l.s-index l.s-items) l.number ≡ wanted l.s-items l.number
