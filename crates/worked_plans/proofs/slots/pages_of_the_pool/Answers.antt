-- By computing.
use Rattle.std.proofs.Common.{refl}
use Rattle.worked_plans.proofs.slots.pages_of_the_pool.Goals as goal

pub returns-clause-all : goal.returns-clause-all
returns-clause-all c = refl

pub returns-clause-no_load : goal.returns-clause-no_load
returns-clause-no_load c = refl

pub returns-clause-written : goal.returns-clause-written
returns-clause-written c = refl

pub returns-clause-draft : goal.returns-clause-draft
returns-clause-draft c = refl

pub returns-clause-placed : goal.returns-clause-placed
returns-clause-placed c = refl

pub returns-clause-area : goal.returns-clause-area
returns-clause-area c = refl

pub returns-clause-no_area : goal.returns-clause-no_area
returns-clause-no_area c = refl
