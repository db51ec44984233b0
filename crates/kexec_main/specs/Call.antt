-- What the top call promises of each command (this project's own).
use Rattle.kx_edge.specs.Edge.{Files}
use Rattle.kx_edge.specs.declared.edge.Shelf.{Ghosts as Shelf}
use Rattle.kx_edge.specs.declared.edge.Sink.{Ghosts as Sink}
use Rattle.list_checker.specs.declared.fault.ListFault.{ListFault}
use Rattle.file_commands.specs.Answers.{Answer}
use Rattle.file_commands.specs.Entry.{IsDone, IsReady, IsRefused, NeedsNoFiles}
use Rattle.file_commands.specs.Taking.{Refusal}
use Rattle.kexec_words.specs.Values.{CommandValue}
use Rattle.command_parts.specs.declared.reason.Reason.{Reason}
use Rattle.kexec_main.specs.Commands.{entry_of}

-- After a command answered Done over files that are told: they were read, and what is promised of what they are stands.
abbrev pub HasDone : {S O : Type 0} → Shelf S → Sink O → Files → S → O → S → O → CommandValue
    → Type 0
HasDone D E held s o s' o' c = IsDone D E (entry_of c) held s o s' o'

-- a command that takes no file ends so over every shelf
abbrev pub EndsWithoutFiles : {S O : Type 0} → Shelf S → Sink O → CommandValue → S → O
    → Answer ListFault Reason → S → O → Type 0
EndsWithoutFiles D E c s o a s' o' = NeedsNoFiles D E (entry_of c) s o a s' o'

-- a command is in order over these files: they are read, and nothing refuses what they are
abbrev pub IsInOrder : CommandValue → Files → Type 0
IsInOrder c held = IsReady (entry_of c) held

-- the files are not read, or what they are is refused
abbrev pub HasRefusal : CommandValue → Files → Refusal Reason → Type 0
HasRefusal c held why = IsRefused (entry_of c) held why
