-- The commands of the program: the goods of each may have the fault of a list (this project's own).
use Rattle.list_checker.specs.declared.fault.ListFault.{ListFault}
use Rattle.file_commands.specs.Answers.{Command}
use Rattle.file_commands.specs.Entry.{Entry}
use Rattle.command_parts.specs.declared.reason.Reason.{Reason}

abbrev pub Program : Type 0 → Type 1
Program X = Command X ListFault Reason

abbrev pub ProgramEntry : Type 1
ProgramEntry = Entry ListFault Reason
