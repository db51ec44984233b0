-- By the pages of the runs.
use Rattle.worked_plans.proofs.Machining.{machine_runs, open_runs}
use Rattle.worked_plans.proofs.grounds.runs_of_memory.Goals as goal

pub returns-clause-machine : goal.returns-clause-machine
returns-clause-machine c = machine_runs

pub returns-clause-without_an_area : goal.returns-clause-without_an_area
returns-clause-without_an_area c = open_runs
