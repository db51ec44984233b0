use Rattle.worked_commands.proofs.WrongExecs.{without_accepted, without_is_memory, without_of_files, without_put, without_said}
use Rattle.worked_commands.proofs.wrong_execs.fields_that_an_exec_needs.Goals as goal

pub returns-clause-of_files : goal.returns-clause-of_files
returns-clause-of_files c = without_of_files

pub returns-clause-accepted : goal.returns-clause-accepted
returns-clause-accepted c = without_accepted

pub returns-clause-is_memory : goal.returns-clause-is_memory
returns-clause-is_memory c = without_is_memory

pub returns-clause-put : goal.returns-clause-put
returns-clause-put c = without_put

pub returns-clause-said : goal.returns-clause-said
returns-clause-said c = without_said
