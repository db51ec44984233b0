-- By the loads of the kernel `abc`.
use Rattle.worked_commands.proofs.DrawnLoads.{plain_load, kept_load, all_fields}
use Rattle.worked_commands.proofs.drawn.drawn_pages_are_a_load.Goals as goal

pub returns-clause-plain : goal.returns-clause-plain
returns-clause-plain c = plain_load

pub returns-clause-kept : goal.returns-clause-kept
returns-clause-kept c = kept_load

pub returns-clause-fields : goal.returns-clause-fields
returns-clause-fields c = all_fields
