use Rattle.purgatory_link.proofs.Bits.{MarkedTo}
use Rattle.purgatory_link.proofs.taken.mark.Given as goal

abbrev pub invariant-loop-index : goal.invariant-loop-index
invariant-loop-index l = MarkedTo l.index l.at l.wide l.fn.words l.words
