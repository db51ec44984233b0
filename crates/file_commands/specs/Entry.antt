-- Commands with what is promised of them, and the one that words say. This project's own.
use Rattle.std.specs.Prelude.{◌≡◌, ◌⊎◌, Result, Ok, Err}
use Rattle.kx_edge.specs.Edge.{Files}
use Rattle.kx_edge.specs.declared.edge.Shelf.{Ghosts as Shelf}
use Rattle.kx_edge.specs.declared.edge.Sink.{Ghosts as Sink}
use Rattle.file_commands.specs.Answers.{Answer, Command, Goods, PutUpTo, command_of, done, memory, unsaid, unwritten}
use Rattle.file_commands.specs.Taking.{Refusal, by, ok, reads, refuse}

-- A command, and what is promised of it.
pub record Entry (F R : Type 0) : Type 1 where
  -- what is read of its files
  pub Inputs : Type 0
  -- what it takes, and what it makes of that
  pub command : Command Inputs F R
  -- what stands after it was done, by what was read
  pub did : {S O : Type 0} → Shelf S → Sink O → Inputs → S → O → S → O → Type 0
  -- nothing refuses what was read, and it has no fault
  pub can : Inputs → Type 0

-- a command that nothing refuses
abbrev pub always : {X : Type 0} → X → Type 0
always x = Unit {0}

-- a command is in order over these files: they are read, and nothing refuses what they are
abbrev pub IsReady : {F R : Type 0} → Entry F R → Files → Type 0
IsReady e held = (x : e.Inputs) × (reads e.command.takes held ≡ Ok x) × e.can x

-- a command is refused over these files: they are not read, or what they are is refused
abbrev pub IsRefused : {F R : Type 0} → Entry F R → Files → Refusal R → Type 0
IsRefused e held why =
    (reads e.command.takes held ≡ Err why)
    ⊎ ((x : e.Inputs) × (reads e.command.takes held ≡ Ok x) × e.command.makes x (Err why))

module _ {S O F R : Type 0} (D : Shelf S) (E : Sink O) (e : Entry F R) where
  -- A command was done over these files: they were read, and what is promised of what they are stands.
  abbrev pub IsDone : Files → S → O → S → O → Type 0
  IsDone held s o s' o' =
      (x : e.Inputs) × (reads e.command.takes held ≡ Ok x) × e.did D E x s o s' o'

  -- A command that takes no file, and that nothing refuses, is done; or the put of an output that it makes, or the say of
  -- its text, failed; or memory is wanted.
  abbrev pub EndsAlone : e.Inputs → S → O → Answer F R → S → O → Type 0
  EndsAlone x s o done s' o' = e.did D E x s o s' o'
  EndsAlone x s o (unwritten name) s' o' =
      (goods : Goods F) × e.command.makes x (Ok goods) × PutUpTo D goods.outputs s name s'
  EndsAlone x s o unsaid s' o' = Unit {0}
  EndsAlone x s o memory s' o' = Unit {0}
  EndsAlone x s o other s' o' = ⊥

  -- so it ends over every shelf, told or not
  abbrev pub NeedsNoFiles : S → O → Answer F R → S → O → Type 0
  NeedsNoFiles s o a s' o' =
      (x : e.Inputs) → e.command.takes ≡ ok x → e.can x → EndsAlone x s o a s' o'

-- a command that is refused before any file is taken
abbrev pub refusal : {F R : Type 0} → R → Command (Unit {0}) F R
refusal why = command_of (refuse (by why)) (λ x r. ⊥)

-- This holds of the command that the words say. Words that are refused are a refusal.
module _ {C W F R : Type 0} (entry_of : C → Entry F R) (reason : W → R) where
  abbrev pub Holds : ((X : Type 0) → Command X F R → Type 0) → Result C W → Type 0
  Holds P (Err why) = P (Unit {0}) (refusal (reason why))
  Holds P (Ok c) = P (entry_of c).Inputs (entry_of c).command
