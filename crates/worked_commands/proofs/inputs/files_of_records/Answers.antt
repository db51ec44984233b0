-- By what is read.
use Rattle.std.specs.Prelude.{refl}
use Rattle.worked_commands.proofs.CallFiles.{migrate_read, record_taken}
use Rattle.worked_commands.proofs.inputs.files_of_records.Goals as goal

pub returns-clause-check : goal.returns-clause-check
returns-clause-check c = record_taken

pub returns-clause-dump : goal.returns-clause-dump
returns-clause-dump c = record_taken

pub returns-clause-exec : goal.returns-clause-exec
returns-clause-exec c = record_taken

pub returns-clause-migrate : goal.returns-clause-migrate
returns-clause-migrate c = migrate_read

pub returns-clause-list : goal.returns-clause-list
returns-clause-list c = refl

pub returns-clause-head : goal.returns-clause-head
returns-clause-head c = refl
