-- By what is held, and then by computing.
use Rattle.std.proofs.Common.{◌≡◌, ℕ, List, [], ◌∷◌, ap, take}
use Rattle.std.specs.Prelude.{codes, unwrap_or}
use Rattle.kx_edge.specs.Edge.{read_of}
use Rattle.worked_commands.specs.Shelves.{two_files}
use Rattle.worked_commands.proofs.Shelves.{got, look}
use Rattle.worked_commands.proofs.edges.bytes_of_a_file.Goals as goal

abbrev files : List (List ℕ × List ℕ)
files = (codes "a", codes "xyz") ∷ (codes "b", codes "vw") ∷ []

read : (name : List ℕ) (most : ℕ) → read_of two_files name most ≡ take most (unwrap_or (look files name) [])
read name most = ap (λ o. take most (unwrap_or o [])) (got files name)

pub returns-clause-whole : goal.returns-clause-whole
returns-clause-whole c = read (codes "a") 4

pub returns-clause-to_the_last : goal.returns-clause-to_the_last
returns-clause-to_the_last c = read (codes "a") 3

pub returns-clause-cut : goal.returns-clause-cut
returns-clause-cut c = read (codes "a") 2

pub returns-clause-other_file : goal.returns-clause-other_file
returns-clause-other_file c = read (codes "b") 2

pub returns-clause-no_file : goal.returns-clause-no_file
returns-clause-no_file c = read (codes "c") 4

pub returns-clause-longer_name : goal.returns-clause-longer_name
returns-clause-longer_name c = read (codes "aa") 4

pub returns-clause-no_name : goal.returns-clause-no_name
returns-clause-no_name c = read [] 4
