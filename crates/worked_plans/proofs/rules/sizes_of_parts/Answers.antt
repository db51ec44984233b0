-- By computing.
use Rattle.std.proofs.Common.{refl}
use Rattle.worked_plans.proofs.rules.sizes_of_parts.Goals as goal

pub returns-clause-whole : goal.returns-clause-whole
returns-clause-whole c = refl

pub returns-clause-part : goal.returns-clause-part
returns-clause-part c = refl

pub returns-clause-start : goal.returns-clause-start
returns-clause-start c = refl

pub returns-clause-segment : goal.returns-clause-segment
returns-clause-segment c = refl
