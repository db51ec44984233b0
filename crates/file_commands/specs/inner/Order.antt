-- A command that is in order, and is done where no device fails. This project's own.
-- No clause of `kexec` reaches what stands here: it serves laws, and contracts inside the crates.
use Rattle.std.specs.Prelude.{◌≡◌, ◌⊎◌, Option, Some, None, Ok, Err}
use Rattle.kx_edge.specs.Edge.{Files, Rose}
use Rattle.kx_edge.specs.declared.edge.Shelf.{Ghosts as Shelf}
use Rattle.kx_edge.specs.declared.edge.Sink.{Ghosts as Sink}
use Rattle.file_commands.specs.Answers.{Answer, Command, Goods, done, memory}
use Rattle.file_commands.specs.Taking.{Refusal, ok, reads}

-- nothing refuses what was read, and it has no fault
pub record Stands {X F R : Type 0} (c : Command X F R) (x : X) : Type 0 where
  pub unrefused : (a : Refusal R) → c.makes x (Err a) → ⊥
  pub whole : (goods : Goods F) → c.makes x (Ok goods) → goods.fault ≡ None

-- a command is in order over these files: they are read, and what they are stands. Over files that are not told it is
-- where it takes none.
abbrev pub InOrder : {X F R : Type 0} → Command X F R → Option Files → Type 0
InOrder {X} c (Some held) = (x : X) × (reads c.takes held ≡ Ok x) × Stands c x
InOrder {X} c None = (x : X) × (c.takes ≡ ok x) × Stands c x

-- what is in order is done where no device fails, or memory is wanted
abbrev pub Completes : {S O X F R : Type 0} → Shelf S → Sink O → Command X F R → S → O → Answer F R
    → S → O → Type 0
Completes D E c s o a s' o' =
    InOrder c (D.files s) → (Rose (D.faults s) (D.faults s') → ⊥)
    → (Rose (E.faults o) (E.faults o') → ⊥) → (a ≡ done) ⊎ (a ≡ memory)
