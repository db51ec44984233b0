use Rattle.range_index.proofs.Finding.{less_is, not_less}
use Rattle.range_index.proofs.index.last_before.Goals as goal

pub returns-in-Some-clause-last : goal.returns-in-Some-clause-last
returns-in-Some-clause-last c = λ q below some. not_less c.in-Some.start.now q ((c.range.ensures.in_range tt).4 _ _ c.in-Some.ensures.steps q (tt, less_is q c.args.end below) some)
