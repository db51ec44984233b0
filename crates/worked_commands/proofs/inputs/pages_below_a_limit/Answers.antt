-- By computing.
use Rattle.std.specs.Prelude.{refl}
use Rattle.worked_commands.proofs.inputs.pages_below_a_limit.Goals as goal

pub returns-clause-limit : goal.returns-clause-limit
returns-clause-limit c = refl

pub returns-clause-no_limit : goal.returns-clause-no_limit
returns-clause-no_limit c = refl

pub returns-clause-usable : goal.returns-clause-usable
returns-clause-usable c = refl

pub returns-clause-all_usable : goal.returns-clause-all_usable
returns-clause-all_usable c = refl
