use Rattle.kexec_plan.proofs.Regions.{same_where_planned}
use Rattle.kexec_plan.proofs.promise.planned_regions_are_same.Goals as goal

pub returns : goal.returns
returns c = same_where_planned
