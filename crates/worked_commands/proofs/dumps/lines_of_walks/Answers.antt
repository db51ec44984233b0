-- By computing.
use Rattle.std.specs.Prelude.{refl}
use Rattle.std.specs.Fmt.{digits}
use Rattle.list_commands.specs.Dump.{word_line}
use Rattle.worked_commands.proofs.dumps.lines_of_walks.Goals as goal

pub returns-clause-whole : goal.returns-clause-whole
unfolding digits word_line
returns-clause-whole c = refl

pub returns-clause-round : goal.returns-clause-round
unfolding digits word_line
returns-clause-round c = refl

pub returns-clause-goods : goal.returns-clause-goods
unfolding digits word_line
returns-clause-goods c = refl

pub returns-clause-head : goal.returns-clause-head
unfolding digits word_line
returns-clause-head c = refl
