use Rattle.worked_commands.proofs.WrongPanics.{area_follows}
use Rattle.worked_commands.proofs.wrong_panics.fields_that_follow_from_a_crash_plan.Goals as goal

pub returns : goal.returns
returns c = area_follows
