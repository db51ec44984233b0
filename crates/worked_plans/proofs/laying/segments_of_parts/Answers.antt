-- By computing.
use Rattle.std.proofs.Common.{refl}
use Rattle.worked_plans.proofs.laying.segments_of_parts.Goals as goal

pub returns-clause-pushed : goal.returns-clause-pushed
returns-clause-pushed c = refl

pub returns-clause-first_fault : goal.returns-clause-first_fault
returns-clause-first_fault c = refl

pub returns-clause-second_fault : goal.returns-clause-second_fault
returns-clause-second_fault c = refl
