-- The loads of commands that were done are laid by the rules.
use Rattle.kx_edge.specs.Edge.{Files}
use Rattle.kx_edge.specs.declared.edge.Shelf.{Ghosts as Shelf}
use Rattle.kx_edge.specs.declared.edge.Sink.{Ghosts as Sink}
use Rattle.file_commands.specs.Answers.{MeetsTold, done}
use Rattle.kexec_words.specs.Values.{CommandValue}
use Rattle.kexec_words.specs.Values as words
use Rattle.kexec_main.specs.Commands.{entry_of}
use Rattle.load_commands.specs.ByRules.{HasLaid}
use Rattle.load_commands.proofs.Commands.Boot.{booted_laid}
use Rattle.load_commands.proofs.Commands.Load.{loaded_laid}

pub has_laid : {S O : Type 0} (D : Shelf S) (E : Sink O) (held : Files) (s : S) (o : O) (s' : S) (o' : O) (c : CommandValue) → MeetsTold D E (entry_of c).command held s o done s' o' → HasLaid D E held s o s' o' c
has_laid D E held s o s' o' (words.boot b) m = booted_laid D E held s o s' o' b m
has_laid D E held s o s' o' (words.load l) m = loaded_laid D E held s o s' o' l m
has_laid D E held s o s' o' other m = tt
