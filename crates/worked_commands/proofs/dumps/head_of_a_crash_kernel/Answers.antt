-- By computing.
use Rattle.std.specs.Prelude.{refl}
use Rattle.std.specs.Fmt.{digits}
use Rattle.list_commands.specs.Dump.{word_line}
use Rattle.worked_commands.proofs.dumps.head_of_a_crash_kernel.Goals as goal

pub returns-clause-done : goal.returns-clause-done
unfolding digits word_line
returns-clause-done c = refl

pub returns-clause-no_fault : goal.returns-clause-no_fault
unfolding digits word_line
returns-clause-no_fault c = refl

pub returns-clause-link : goal.returns-clause-link
unfolding digits word_line
returns-clause-link c = refl

pub returns-clause-link_fault : goal.returns-clause-link_fault
unfolding digits word_line
returns-clause-link_fault c = refl

pub returns-clause-no_flag : goal.returns-clause-no_flag
unfolding digits word_line
returns-clause-no_flag c = refl

pub returns-clause-past_the_limit : goal.returns-clause-past_the_limit
unfolding digits word_line
returns-clause-past_the_limit c = refl
