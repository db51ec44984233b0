-- By computing.
use Rattle.std.specs.Prelude.{refl}
use Rattle.std.specs.Fmt.{digits}
use Rattle.worked_commands.proofs.texts.hexadecimal_numbers.Goals as goal

pub returns-clause-lower_case : goal.returns-clause-lower_case
unfolding digits
returns-clause-lower_case c = refl

pub returns-clause-zero : goal.returns-clause-zero
unfolding digits
returns-clause-zero c = refl

pub returns-clause-sixteen : goal.returns-clause-sixteen
unfolding digits
returns-clause-sixteen c = refl

pub returns-clause-last : goal.returns-clause-last
unfolding digits
returns-clause-last c = refl
