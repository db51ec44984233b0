-- By computing.
use Rattle.std.proofs.Common.{refl}
use Rattle.worked_plans.proofs.samples.segment_of_a_shape.Goals as goal

pub returns-clause-bytes : goal.returns-clause-bytes
returns-clause-bytes c = refl

pub returns-clause-segment : goal.returns-clause-segment
returns-clause-segment c = refl

pub returns-clause-behind : goal.returns-clause-behind
returns-clause-behind c = refl

pub returns-clause-start : goal.returns-clause-start
returns-clause-start c = refl
