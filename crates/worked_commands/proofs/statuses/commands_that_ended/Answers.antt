-- By computing.
use Rattle.std.specs.Prelude.{refl}
use Rattle.worked_commands.proofs.statuses.commands_that_ended.Goals as goal

pub returns-clause-done : goal.returns-clause-done
returns-clause-done c = refl

pub returns-clause-done_code : goal.returns-clause-done_code
returns-clause-done_code c = refl

pub returns-clause-not_accepted : goal.returns-clause-not_accepted
returns-clause-not_accepted c = refl

pub returns-clause-not_accepted_code : goal.returns-clause-not_accepted_code
returns-clause-not_accepted_code c = refl

pub returns-clause-unsaid : goal.returns-clause-unsaid
returns-clause-unsaid c = refl

pub returns-clause-unsaid_code : goal.returns-clause-unsaid_code
returns-clause-unsaid_code c = refl

pub returns-clause-memory : goal.returns-clause-memory
returns-clause-memory c = refl

pub returns-clause-memory_code : goal.returns-clause-memory_code
returns-clause-memory_code c = refl
