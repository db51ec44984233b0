-- By computing.
use Rattle.std.proofs.Common.{refl}
use Rattle.kexec_plan.specs.Holes.{greatest, least}
use Rattle.worked_plans.proofs.places.numbers_that_pass.Goals as goal

pub returns-clause-greatest : goal.returns-clause-greatest
unfolding greatest
returns-clause-greatest c = refl

pub returns-clause-not_the_bound : goal.returns-clause-not_the_bound
unfolding greatest
returns-clause-not_the_bound c = refl

pub returns-clause-up_to_the_bound : goal.returns-clause-up_to_the_bound
unfolding greatest
returns-clause-up_to_the_bound c = refl

pub returns-clause-least : goal.returns-clause-least
unfolding least
returns-clause-least c = refl

pub returns-clause-from_a_number : goal.returns-clause-from_a_number
unfolding least
returns-clause-from_a_number c = refl

pub returns-clause-too_few : goal.returns-clause-too_few
unfolding least
returns-clause-too_few c = refl

pub returns-clause-enough : goal.returns-clause-enough
unfolding least
returns-clause-enough c = refl

pub returns-clause-from_below : goal.returns-clause-from_below
unfolding least greatest
returns-clause-from_below c = refl

pub returns-clause-from_above : goal.returns-clause-from_above
unfolding least greatest
returns-clause-from_above c = refl
