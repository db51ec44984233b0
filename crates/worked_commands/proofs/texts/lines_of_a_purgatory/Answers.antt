-- By computing.
use Rattle.std.proofs.Common.{refl, ap}
use Rattle.command_parts.specs.Texts.{regions_line}
use Rattle.std.specs.Fmt.{digits}
use Rattle.worked_commands.proofs.texts.lines_of_a_purgatory.Goals as goal

pub returns-clause-same : goal.returns-clause-same
unfolding digits
returns-clause-same c = refl

pub returns-clause-differ : goal.returns-clause-differ
unfolding digits
returns-clause-differ c = refl

pub returns-clause-wild : goal.returns-clause-wild
unfolding digits
returns-clause-wild c = refl

pub returns-clause-no_purgatory : goal.returns-clause-no_purgatory
unfolding digits
returns-clause-no_purgatory c = λ N. refl

pub returns-clause-found : goal.returns-clause-found
unfolding digits
returns-clause-found c = λ N e. ap (λ t. regions_line t) e
