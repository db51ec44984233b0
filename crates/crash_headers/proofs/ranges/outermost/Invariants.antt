use Rattle.crash_headers.proofs.Order.{IsOuter}
use Rattle.crash_headers.proofs.ranges.outermost.Given as goal

abbrev pub invariant-loop-range : goal.invariant-loop-range
invariant-loop-range l = IsOuter l.sorted l.outer.items l.range-index
