-- Shelves are one where they have the same files in the order of their names.
use Rattle.std.proofs.Common.{◌≡◌, ◌∙◌, ℕ, zero, suc, List, [], ◌∷◌, Option, Some, None, refl, sym, ap, arith, take, false}
use Rattle.std.specs.Prelude.{codes}
use Rattle.std.specs.FinMap.{insert}
use Rattle.kx_laws.proofs.Options.{some_same}
use Rattle.kx_edge.specs.Edge.{Files}
use Rattle.worked_commands.specs.Shelves.{holding}
use Rattle.worked_commands.proofs.Shelves.{apart, one_shelf, same}
use Rattle.worked_commands.proofs.edges.file_that_is_cut.Goals as goal

abbrev files : List (List ℕ × List ℕ)
files = (codes "a", codes "xyz") ∷ (codes "b", codes "vw") ∷ []

abbrev with : List ℕ → List (List ℕ × List ℕ)
with bytes = (codes "a", codes "xyz") ∷ (codes "b", codes "vw") ∷ (codes "c", bytes) ∷ []

pub returns-clause-none : goal.returns-clause-none
returns-clause-none c = (holding files, 0, omega arith, refl, one_shelf (with []) ((codes "c", []) ∷ files) refl)

pub returns-clause-some : goal.returns-clause-some
returns-clause-some c = (holding files, 1, omega arith, refl, one_shelf (with (codes "u")) ((codes "c", codes "u") ∷ files) refl)

pub returns-clause-all : goal.returns-clause-all
returns-clause-all c = (holding files, 2, omega arith, refl, one_shelf (with (codes "uv")) ((codes "c", codes "uv") ∷ files) refl)

pub returns-clause-untold : goal.returns-clause-untold
returns-clause-untold c = tt

-- no first bytes of these are `v`
no_front : (n : ℕ) → same (codes "v") (take n (codes "uv")) ≡ false
no_front zero = refl
no_front (suc n) = refl

pub returns-clause-no_prefix : goal.returns-clause-no_prefix
returns-clause-no_prefix c = λ (held, n, le, same, now).
    apart (with (codes "v")) ((codes "c", take n (codes "uv")) ∷ files) (codes "c") (codes "v") (take n (codes "uv")) refl refl (no_front n)
    (now ∙ ap (λ held. insert held (codes "c") (take n (codes "uv"))) (sym (some_same (holding files) held same)))

pub returns-clause-never_told : goal.returns-clause-never_told
returns-clause-never_told c = λ now (held, n, le, same, e). let f : ◌≡◌ {A = Option Files} None (Some held) = same in cc
