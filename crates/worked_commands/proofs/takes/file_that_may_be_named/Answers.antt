-- By what is held, and then by computing.
use Rattle.std.proofs.Common.{ℕ, List, [], ◌∷◌, None, Some}
use Rattle.std.specs.Prelude.{codes}
use Rattle.file_commands.specs.Files.{optional_file, whole_file}
use Rattle.file_commands.specs.Taking.{and_then}
use Rattle.worked_commands.proofs.Reading.{read_by}
use Rattle.worked_commands.proofs.takes.file_that_may_be_named.Goals as goal

abbrev files : List (List ℕ × List ℕ)
files = (codes "a", codes "xyz") ∷ (codes "b", codes "vw") ∷ []

pub returns-clause-unnamed : goal.returns-clause-unnamed
unfolding and_then
returns-clause-unnamed c = read_by files (optional_file {R = ℕ} (whole_file 3) None)

pub returns-clause-named : goal.returns-clause-named
unfolding and_then
returns-clause-named c = read_by files (optional_file {R = ℕ} (whole_file 3) (Some (codes "a")))

pub returns-clause-too_long : goal.returns-clause-too_long
unfolding and_then
returns-clause-too_long c = read_by files (optional_file {R = ℕ} (whole_file 1) (Some (codes "b")))
