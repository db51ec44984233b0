-- By what is read, one after another.
use Rattle.worked_commands.proofs.EachFile.{with_notes, without_notes}
use Rattle.worked_commands.proofs.inputs.files_of_load_panic.Goals as goal

pub returns-clause-with_notes : goal.returns-clause-with_notes
returns-clause-with_notes c = with_notes

pub returns-clause-without_notes : goal.returns-clause-without_notes
returns-clause-without_notes c = without_notes
