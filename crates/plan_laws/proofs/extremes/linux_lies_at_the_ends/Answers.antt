use Rattle.plan_laws.proofs.LinuxEnds.{linux_lies_at_the_ends}
use Rattle.plan_laws.proofs.extremes.linux_lies_at_the_ends.Goals as goal

pub returns : goal.returns
returns c = linux_lies_at_the_ends
