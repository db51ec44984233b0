-- By computing.
use Rattle.std.proofs.Common.{refl}
use Rattle.worked_plans.proofs.grounds.rows_and_limits.Goals as goal

pub returns-clause-no_rows : goal.returns-clause-no_rows
returns-clause-no_rows c = refl

pub returns-clause-rows : goal.returns-clause-rows
returns-clause-rows c = refl

pub returns-clause-crash_rows : goal.returns-clause-crash_rows
returns-clause-crash_rows c = refl

pub returns-clause-unknown : goal.returns-clause-unknown
returns-clause-unknown c = refl

pub returns-clause-machine : goal.returns-clause-machine
returns-clause-machine c = refl

pub returns-clause-reserved : goal.returns-clause-reserved
returns-clause-reserved c = refl
