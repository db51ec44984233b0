-- By computing.
use Rattle.std.proofs.Common.{refl}
use Rattle.kexec_plan.specs.Ground.{ram}
use Rattle.worked_plans.proofs.grounds.pages_for_parts.Goals as goal

pub returns-clause-unknown : goal.returns-clause-unknown
unfolding ram
returns-clause-unknown c = refl

pub returns-clause-low : goal.returns-clause-low
unfolding ram
returns-clause-low c = refl

pub returns-clause-around_the_area : goal.returns-clause-around_the_area
unfolding ram
returns-clause-around_the_area c = refl

pub returns-clause-above_4_gib : goal.returns-clause-above_4_gib
unfolding ram
returns-clause-above_4_gib c = refl

pub returns-clause-reserved : goal.returns-clause-reserved
unfolding ram
returns-clause-reserved c = refl
