-- By computing.
use Rattle.std.specs.Prelude.{refl}
use Rattle.std.specs.Fmt.{digits}
use Rattle.list_commands.specs.Dump.{word_line}
use Rattle.worked_commands.proofs.dumps.lines_of_words.Goals as goal

pub returns-clause-link : goal.returns-clause-link
unfolding digits word_line
returns-clause-link c = refl

pub returns-clause-destination : goal.returns-clause-destination
unfolding digits word_line
returns-clause-destination c = refl

pub returns-clause-source : goal.returns-clause-source
unfolding digits word_line
returns-clause-source c = refl

pub returns-clause-done : goal.returns-clause-done
unfolding digits word_line
returns-clause-done c = refl

pub returns-clause-done_with_an_address : goal.returns-clause-done_with_an_address
unfolding digits word_line
returns-clause-done_with_an_address c = refl

pub returns-clause-two_flags : goal.returns-clause-two_flags
unfolding digits word_line
returns-clause-two_flags c = refl

pub returns-clause-item : goal.returns-clause-item
unfolding digits word_line
returns-clause-item c = refl

pub returns-clause-numbered : goal.returns-clause-numbered
unfolding digits word_line
returns-clause-numbered c = refl
