use Rattle.plan_laws.proofs.MultibootEnds.{multiboot_lies_at_the_ends}
use Rattle.plan_laws.proofs.extremes.multiboot_lies_at_the_ends.Goals as goal

pub returns : goal.returns
returns c = multiboot_lies_at_the_ends
