use Rattle.worked_commands.proofs.WrongBoots.{without_is_memory, without_load, without_put, without_said}
use Rattle.worked_commands.proofs.wrong_boots.fields_that_a_boot_needs.Goals as goal

pub returns-clause-load : goal.returns-clause-load
returns-clause-load c = without_load

pub returns-clause-is_memory : goal.returns-clause-is_memory
returns-clause-is_memory c = without_is_memory

pub returns-clause-put : goal.returns-clause-put
returns-clause-put c = without_put

pub returns-clause-said : goal.returns-clause-said
returns-clause-said c = without_said
