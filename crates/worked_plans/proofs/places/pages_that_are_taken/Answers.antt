-- By computing.
use Rattle.std.proofs.Common.{refl}
use Rattle.kexec_plan.specs.Places.{taken_by, taking}
use Rattle.worked_plans.proofs.places.pages_that_are_taken.Goals as goal

pub returns-clause-met : goal.returns-clause-met
returns-clause-met c = refl

pub returns-clause-whole : goal.returns-clause-whole
returns-clause-whole c = refl

pub returns-clause-without_memory : goal.returns-clause-without_memory
returns-clause-without_memory c = refl

pub returns-clause-limit : goal.returns-clause-limit
returns-clause-limit c = refl

pub returns-clause-taken_by : goal.returns-clause-taken_by
unfolding taken_by
returns-clause-taken_by c = refl

pub returns-clause-pages : goal.returns-clause-pages
returns-clause-pages c = refl

pub returns-clause-taking : goal.returns-clause-taking
unfolding taking
returns-clause-taking c = refl
