-- By what is held, and then by computing.
use Rattle.std.proofs.Common.{ℕ, List, [], ◌∷◌, refl}
use Rattle.std.specs.Prelude.{codes}
use Rattle.file_commands.specs.Files.{whole_file}
use Rattle.worked_commands.proofs.Reading.{read_by}
use Rattle.worked_commands.proofs.takes.file_within_its_limit.Goals as goal

abbrev files : List (List ℕ × List ℕ)
files = (codes "a", codes "xyz") ∷ (codes "b", codes "vw") ∷ []

pub returns-clause-exactly : goal.returns-clause-exactly
returns-clause-exactly c = read_by files (whole_file {R = ℕ} 3 (codes "a"))

pub returns-clause-one_more : goal.returns-clause-one_more
returns-clause-one_more c = read_by files (whole_file {R = ℕ} 2 (codes "a"))

pub returns-clause-no_file : goal.returns-clause-no_file
returns-clause-no_file c = read_by files (whole_file {R = ℕ} 3 (codes "c"))

pub returns-clause-no_byte : goal.returns-clause-no_byte
returns-clause-no_byte c = read_by files (whole_file {R = ℕ} 0 (codes "c"))

pub returns-clause-length : goal.returns-clause-length
returns-clause-length c = refl

pub returns-clause-past : goal.returns-clause-past
returns-clause-past c = refl
