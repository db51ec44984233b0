use Rattle.std.proofs.Common.{arith}
use Rattle.purgatory_link.proofs.Bits.{marked_none, marked_more, marked_all}
use Rattle.purgatory_link.proofs.taken.mark.Goals as goal

pub loop-index-init : goal.loop-index-init
loop-index-init c = marked_none c.args.at c.args.wide c.args.words.now

pub loop-index-preserved : goal.loop-index-preserved
loop-index-preserved c = marked_more c.loop-index.index c.args.at c.args.wide c.mask.result c.args.words.now c.loop-index.words (omega arith) c.mask.ensures c.loop-index.invariant

pub returns : goal.returns
returns c = marked_all c.loop-index.index c.args.at c.args.wide c.args.words.now c.loop-index.words (omega arith) c.loop-index.invariant
