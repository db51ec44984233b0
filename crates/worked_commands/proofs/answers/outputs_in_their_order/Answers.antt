-- By what was read, made and put.
use Rattle.std.proofs.Common.{ℕ, List, [], ◌∷◌, None, Some, refl, ap}
use Rattle.std.specs.Prelude.{codes}
use Rattle.kx_edge.specs.Edge.{Files}
use Rattle.kx_laws.proofs.Options.{none_some, some_same}
use Rattle.worked_commands.specs.Shelves.{holding, two_files}
use Rattle.worked_commands.proofs.Shelves.{lost, one_shelf}
use Rattle.worked_commands.proofs.answers.outputs_in_their_order.Goals as goal

abbrev files : List (List ℕ × List ℕ)
files = (codes "a", codes "xyz") ∷ (codes "b", codes "vw") ∷ []

abbrev with_two : List (List ℕ × List ℕ)
with_two = (codes "a", codes "xyz") ∷ (codes "b", codes "vw") ∷ (codes "c", codes "2") ∷ []

pub returns-clause-none : goal.returns-clause-none
returns-clause-none c = refl

pub returns-clause-last : goal.returns-clause-last
returns-clause-last c = one_shelf ((codes "c", codes "2") ∷ (codes "a", codes "xyz") ∷ (codes "c", codes "1") ∷ files) with_two refl

pub returns-clause-put : goal.returns-clause-put
returns-clause-put c = ap Some (one_shelf with_two ((codes "c", codes "2") ∷ files) refl)

pub returns-clause-put_nothing : goal.returns-clause-put_nothing
returns-clause-put_nothing c = refl

pub returns-clause-not_put : goal.returns-clause-not_put
returns-clause-not_put c = λ h.
    lost files ((codes "c", codes "2") ∷ files) (codes "c") (codes "2") refl refl (some_same two_files (holding ((codes "c", codes "2") ∷ files)) h)

pub returns-clause-untold : goal.returns-clause-untold
returns-clause-untold c = refl

pub returns-clause-no_more_told : goal.returns-clause-no_more_told
returns-clause-no_more_told c = λ h. none_some {A = Files} None (holding ((codes "c", codes "2") ∷ files)) refl h
