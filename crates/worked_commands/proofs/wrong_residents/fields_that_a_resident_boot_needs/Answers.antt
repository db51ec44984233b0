use Rattle.worked_commands.proofs.WrongResidents.{without_accepted, without_is_memory, without_of_list, without_put, without_resident, without_said}
use Rattle.worked_commands.proofs.wrong_residents.fields_that_a_resident_boot_needs.Goals as goal

pub returns-clause-resident : goal.returns-clause-resident
returns-clause-resident c = without_resident

pub returns-clause-of_list : goal.returns-clause-of_list
returns-clause-of_list c = without_of_list

pub returns-clause-accepted : goal.returns-clause-accepted
returns-clause-accepted c = without_accepted

pub returns-clause-is_memory : goal.returns-clause-is_memory
returns-clause-is_memory c = without_is_memory

pub returns-clause-put : goal.returns-clause-put
returns-clause-put c = without_put

pub returns-clause-said : goal.returns-clause-said
returns-clause-said c = without_said
