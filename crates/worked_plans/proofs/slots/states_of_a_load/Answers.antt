-- By computing.
use Rattle.std.proofs.Common.{refl}
use Rattle.worked_plans.proofs.slots.states_of_a_load.Goals as goal

pub returns-clause-swap : goal.returns-clause-swap
returns-clause-swap c = refl

pub returns-clause-memory : goal.returns-clause-memory
returns-clause-memory c = refl

pub returns-clause-image : goal.returns-clause-image
returns-clause-image c = refl

pub returns-clause-made : goal.returns-clause-made
returns-clause-made c = refl

pub returns-clause-drawn : goal.returns-clause-drawn
returns-clause-drawn c = refl

pub returns-clause-limit : goal.returns-clause-limit
returns-clause-limit c = refl
