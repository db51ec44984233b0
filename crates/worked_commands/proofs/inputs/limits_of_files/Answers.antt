-- By computing.
use Rattle.std.specs.Prelude.{refl}
use Rattle.worked_commands.proofs.inputs.limits_of_files.Goals as goal

pub returns-clause-memory : goal.returns-clause-memory
returns-clause-memory c = refl

pub returns-clause-load_record : goal.returns-clause-load_record
returns-clause-load_record c = refl

pub returns-clause-text : goal.returns-clause-text
returns-clause-text c = refl

pub returns-clause-purgatory : goal.returns-clause-purgatory
returns-clause-purgatory c = refl

pub returns-clause-left : goal.returns-clause-left
returns-clause-left c = refl

pub returns-clause-all_left : goal.returns-clause-all_left
returns-clause-all_left c = refl
