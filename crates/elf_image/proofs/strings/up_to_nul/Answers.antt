use Rattle.std.proofs.Common.{◌∙◌}
use Rattle.elf_image.proofs.Named.{found_nul, no_nul}
use Rattle.elf_image.proofs.strings.up_to_nul.Goals as goal

pub returns-in-Some : goal.returns-in-Some
returns-in-Some c = c.split_at.ensures.front ∙ found_nul c.args.bytes.now c.in-Some.length c.in-Some.ensures.value

pub returns-in-None : goal.returns-in-None
returns-in-None c = no_nul c.args.bytes.now c.in-None.ensures.value
