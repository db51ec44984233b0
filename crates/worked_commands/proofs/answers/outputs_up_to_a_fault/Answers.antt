-- By what was read, made and put.
use Rattle.std.proofs.Common.{◌≡◌, ℕ, List, [], ◌∷◌, refl, ap, arith, length, ◌++◌, suc}
use Rattle.std.specs.Prelude.{codes}
use Rattle.worked_commands.specs.Shelves.{two_files}
use Rattle.worked_commands.proofs.Shelves.{differ, one_shelf}
use Rattle.worked_commands.proofs.answers.outputs_up_to_a_fault.Goals as goal

abbrev files : List (List ℕ × List ℕ)
files = (codes "a", codes "xyz") ∷ (codes "b", codes "vw") ∷ []

abbrev cut : List (List ℕ × List ℕ)
cut = (codes "a", codes "u") ∷ (codes "b", codes "vw") ∷ (codes "c", codes "1") ∷ []

pub returns-clause-up_to : goal.returns-clause-up_to
returns-clause-up_to c = (two_files, 1, omega arith, refl, one_shelf cut ((codes "a", codes "u") ∷ (codes "c", codes "1") ∷ files) refl)

pub returns-clause-cut : goal.returns-clause-cut
returns-clause-cut c = ((codes "c", codes "1") ∷ [], codes "uv", (codes "b", codes "2") ∷ [], refl, (two_files, 1, omega arith, refl, one_shelf cut ((codes "a", codes "u") ∷ (codes "c", codes "1") ∷ files) refl))

pub returns-clause-cut_untold : goal.returns-clause-cut_untold
returns-clause-cut_untold c = ([], codes "uv", [], refl, tt)

abbrev first_name : List (List ℕ × List ℕ) → List ℕ
first_name [] = []
first_name (f ∷ fs) = f.0

-- `b` is the name of no output
no_output : (before : List (List ℕ × List ℕ)) (bytes : List ℕ) (after : List (List ℕ × List ℕ)) → ◌≡◌ {A = List (List ℕ × List ℕ)} ((codes "a", codes "uv") ∷ []) (before ++ (codes "b", bytes) ∷ after) → ⊥
no_output [] bytes after e = differ (codes "a") (codes "b") refl (ap (λ (fs : List (List ℕ × List ℕ)). first_name fs) e)
no_output (f ∷ []) bytes after e = let h : 1 ≡ suc (suc (length after)) = ap length e in omega (arith, h)
no_output (f ∷ g ∷ fs) bytes after e = let h : 1 ≡ suc (suc (length (fs ++ (codes "b", bytes) ∷ after))) = ap length e in omega (arith, h)

pub returns-clause-no_output : goal.returns-clause-no_output
returns-clause-no_output c = λ h. no_output h.0 h.1 h.2 h.3
