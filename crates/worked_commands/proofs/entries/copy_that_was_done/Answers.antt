-- By what was put and said.
use Rattle.std.proofs.Common.{◌≡◌, ℕ, List, [], ◌∷◌, Some, refl, ap, subst}
use Rattle.std.specs.Prelude.{codes}
use Rattle.kx_laws.proofs.Options.{some_same}
use Rattle.file_commands.specs.Answers.{FilesPut}
use Rattle.worked_commands.specs.Shelves.{holding}
use Rattle.worked_commands.specs.Answers.{one_file}
use Rattle.worked_commands.proofs.Shelves.{apart, one_shelf}
use Rattle.worked_commands.proofs.Copies.{read_here, x_is}
use Rattle.worked_commands.proofs.entries.copy_that_was_done.Goals as goal

abbrev both : List (List ℕ × List ℕ)
both = (codes "r", codes "12") ∷ (codes "o", codes "xyz") ∷ one_file

abbrev wrong : List (List ℕ × List ℕ)
wrong = (codes "a", codes "xyz") ∷ (codes "o", codes "xyy") ∷ (codes "r", codes "12") ∷ []

-- this is put of what was read
differs : (x : List ℕ) → x ≡ codes "xyz" → FilesPut (Some (holding one_file)) ((codes "o", x) ∷ (codes "r", codes "12") ∷ []) (Some (holding wrong)) → ⊥
differs x e p =
    let k = subst (λ x. FilesPut (Some (holding one_file)) ((codes "o", x) ∷ (codes "r", codes "12") ∷ []) (Some (holding wrong))) e p in
    apart wrong both (codes "o") (codes "xyy") (codes "xyz") refl refl refl
    (some_same (holding wrong) (holding both) k)

pub returns-clause-done : goal.returns-clause-done
returns-clause-done c = (
  codes "xyz",
  read_here,
  (
    ap Some (one_shelf ((codes "a", codes "xyz") ∷ (codes "o", codes "xyz") ∷ (codes "r", codes "12") ∷ []) both refl),
    refl,
  ),
)

pub returns-clause-other_bytes : goal.returns-clause-other_bytes
returns-clause-other_bytes c = λ h. differs h.0 (x_is h.0 h.1) h.2.0
