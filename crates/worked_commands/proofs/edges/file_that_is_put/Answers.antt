-- Shelves are one where they have the same files in the order of their names.
use Rattle.std.proofs.Common.{◌≡◌, ℕ, List, [], ◌∷◌, Some, None, refl, sym, ap}
use Rattle.std.specs.Prelude.{codes}
use Rattle.kx_laws.proofs.Options.{none_some, some_same}
use Rattle.kx_edge.specs.Edge.{Files, PutFile}
use Rattle.worked_commands.specs.Shelves.{holding}
use Rattle.worked_commands.proofs.Shelves.{apart, lost, one_shelf}
use Rattle.worked_commands.proofs.edges.file_that_is_put.Goals as goal

abbrev files : List (List ℕ × List ℕ)
files = (codes "a", codes "xyz") ∷ (codes "b", codes "vw") ∷ []

-- the put makes the shelf this one
made : (name bytes : List ℕ) (fs : List (List ℕ × List ℕ)) → PutFile (Some (holding files)) name bytes (Some (holding fs)) → holding fs ≡ holding ((name, bytes) ∷ files)
made name bytes fs h = some_same (holding fs) (holding ((name, bytes) ∷ files)) h

pub returns-clause-new : goal.returns-clause-new
returns-clause-new c = ap Some (one_shelf ((codes "a", codes "xyz") ∷ (codes "b", codes "vw") ∷ (codes "c", codes "uv") ∷ []) ((codes "c", codes "uv") ∷ files) refl)

pub returns-clause-replaced : goal.returns-clause-replaced
returns-clause-replaced c = ap Some (one_shelf ((codes "b", codes "vw") ∷ (codes "a", codes "uv") ∷ []) ((codes "a", codes "uv") ∷ files) refl)

pub returns-clause-untold : goal.returns-clause-untold
returns-clause-untold c = refl

pub returns-clause-no_more_told : goal.returns-clause-no_more_told
returns-clause-no_more_told c = λ h. none_some {A = Files} None (holding ((codes "c", codes "uv") ∷ files)) refl h

pub returns-clause-other_bytes : goal.returns-clause-other_bytes
returns-clause-other_bytes c = λ h.
    let fs : List (List ℕ × List ℕ) = (codes "a", codes "xyz") ∷ (codes "b", codes "vw") ∷ (codes "c", codes "vu") ∷ [] in
    apart fs ((codes "c", codes "uv") ∷ files) (codes "c") (codes "vu") (codes "uv") refl refl refl (made (codes "c") (codes "uv") fs h)

pub returns-clause-other_file_lost : goal.returns-clause-other_file_lost
returns-clause-other_file_lost c = λ h.
    let fs : List (List ℕ × List ℕ) = (codes "a", codes "xyz") ∷ (codes "c", codes "uv") ∷ [] in
    lost fs ((codes "c", codes "uv") ∷ files) (codes "b") (codes "vw") refl refl (made (codes "c") (codes "uv") fs h)

pub returns-clause-never_told : goal.returns-clause-never_told
returns-clause-never_told c = λ now h. none_some {A = Files} None now refl (sym h)
