use Rattle.plan_laws.proofs.HandedOn.{multiboot_purgatory_hands_on}
use Rattle.plan_laws.proofs.multiboot.multiboot_purgatory_hands_on.Goals as goal

pub returns : goal.returns
returns c = multiboot_purgatory_hands_on
