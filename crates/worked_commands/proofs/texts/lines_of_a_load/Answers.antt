-- By computing.
use Rattle.std.specs.Prelude.{refl}
use Rattle.std.specs.Fmt.{digits}
use Rattle.worked_commands.proofs.texts.lines_of_a_load.Goals as goal

pub returns-clause-accepted : goal.returns-clause-accepted
unfolding digits
returns-clause-accepted c = refl

pub returns-clause-plain_head : goal.returns-clause-plain_head
unfolding digits
returns-clause-plain_head c = refl

pub returns-clause-kept_head : goal.returns-clause-kept_head
unfolding digits
returns-clause-kept_head c = refl

pub returns-clause-start : goal.returns-clause-start
unfolding digits
returns-clause-start c = refl

pub returns-clause-load : goal.returns-clause-load
unfolding digits
returns-clause-load c = refl
