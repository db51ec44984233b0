use Rattle.worked_commands.proofs.WrongBoots.{right}
use Rattle.worked_commands.proofs.wrong_boots.right_boot.Goals as goal

pub returns : goal.returns
returns c = right
