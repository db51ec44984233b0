use Rattle.resident_planner.proofs.Always.{list_exists}
use Rattle.resident_planner.proofs.laws.list_exists.Goals as goal

pub returns : goal.returns
returns c = list_exists
