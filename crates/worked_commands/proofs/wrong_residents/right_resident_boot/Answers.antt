use Rattle.worked_commands.proofs.WrongResidents.{right}
use Rattle.worked_commands.proofs.wrong_residents.right_resident_boot.Goals as goal

pub returns : goal.returns
returns c = right
