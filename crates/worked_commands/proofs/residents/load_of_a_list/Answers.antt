-- By computing.
use Rattle.std.specs.Prelude.{refl}
use Rattle.worked_commands.proofs.residents.load_of_a_list.Goals as goal

pub returns-clause-inputs : goal.returns-clause-inputs
returns-clause-inputs c = refl

pub returns-clause-load : goal.returns-clause-load
returns-clause-load c = refl
