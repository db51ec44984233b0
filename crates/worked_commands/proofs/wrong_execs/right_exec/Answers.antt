use Rattle.worked_commands.proofs.WrongExecs.{right}
use Rattle.worked_commands.proofs.wrong_execs.right_exec.Goals as goal

pub returns : goal.returns
returns c = right
