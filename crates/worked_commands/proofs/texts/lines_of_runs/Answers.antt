-- By computing.
use Rattle.std.specs.Prelude.{refl}
use Rattle.std.specs.Fmt.{digits}
use Rattle.worked_commands.proofs.texts.lines_of_runs.Goals as goal

pub returns-clause-ran : goal.returns-clause-ran
unfolding digits
returns-clause-ran c = refl

pub returns-clause-done : goal.returns-clause-done
unfolding digits
returns-clause-done c = refl

pub returns-clause-running : goal.returns-clause-running
unfolding digits
returns-clause-running c = refl

pub returns-clause-off : goal.returns-clause-off
unfolding digits
returns-clause-off c = refl

pub returns-clause-copies : goal.returns-clause-copies
unfolding digits
returns-clause-copies c = refl

pub returns-clause-exchanges : goal.returns-clause-exchanges
unfolding digits
returns-clause-exchanges c = refl
