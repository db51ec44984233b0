-- By what is held, and then by computing.
use Rattle.std.proofs.Common.{ℕ, List, [], ◌∷◌, refl}
use Rattle.std.specs.Prelude.{codes}
use Rattle.worked_commands.proofs.takes.bytes_that_are_read.Goals as goal

abbrev files : List (List ℕ × List ℕ)
files = (codes "a", codes "xyz") ∷ (codes "b", codes "vw") ∷ []

pub returns-clause-read : goal.returns-clause-read
returns-clause-read c = refl

pub returns-clause-refused : goal.returns-clause-refused
returns-clause-refused c = refl
