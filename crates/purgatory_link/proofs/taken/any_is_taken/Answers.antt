use Rattle.purgatory_link.proofs.Bits.{taken_by, free_by, free_past, free_more}
use Rattle.purgatory_link.proofs.taken.any_is_taken.Goals as goal
use Rattle.purgatory_link.proofs.taken.any_is_taken.Goals.{in-Some+else-word-mask-ne0, in_default}

pub returns-then-word-mask-ne0-clause-some : goal.returns-then-word-mask-ne0-clause-some
returns-then-word-mask-ne0-clause-some c = λ _. taken_by c.args.words.now c.loop-index.index c.args.at c.args.wide c.in-Some.word.now c.mask.result (c.in-Some.ensures.lookup.3.1 0) c.mask.type_inv c.mask.ensures c.if-word-mask-ne0.true

pub loop-index-preserved : goal.loop-index-preserved
loop-index-preserved c = elim c.match-get.branch [
  | in-Some+else-word-mask-ne0 w ↦ free_more c.args.words.now c.loop-index.index c.args.at c.args.wide
      (free_by c.args.words.now c.loop-index.index c.args.at c.args.wide w.in-Some.word.now w.mask.result (w.in-Some.ensures.lookup.3.1 0) w.mask.ensures w.if-word-mask-ne0.false)
      c.loop-index.invariant
  | in_default w ↦ free_more c.args.words.now c.loop-index.index c.args.at c.args.wide
      (free_past c.args.words.now c.loop-index.index c.args.at c.args.wide w.in_default.ensures.lookup.3)
      c.loop-index.invariant
]
