-- By computing.
use Rattle.std.proofs.Common.{refl}
use Rattle.worked_plans.proofs.plans.beginning_of_a_plan.Goals as goal

pub returns : goal.returns
returns c = refl
