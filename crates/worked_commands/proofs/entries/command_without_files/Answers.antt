-- By what was put.
use Rattle.std.proofs.Common.{◌≡◌, ℕ, List, [], ◌∷◌, Some, None, Bool, true, false, refl, ap, subst, arith, inl, inr}
use Rattle.std.specs.Prelude.{codes}
use Rattle.kx_laws.proofs.Options.{some_same}
use Rattle.kx_laws.proofs.Results.{ok_same}
use Rattle.file_commands.specs.Answers.{CutsFile, FilesPut, Goods, PutUpTo}
use Rattle.file_commands.specs.Files.{whole_file}
use Rattle.file_commands.specs.Taking.{Refusal, Take, file, ok, refuse}
use Rattle.worked_commands.specs.Shelves.{desk, holding}
use Rattle.worked_commands.specs.Answers.{one_file, shelf}
use Rattle.worked_commands.proofs.Shelves.{differ, lost, one_shelf}
use Rattle.worked_commands.proofs.entries.command_without_files.Goals as goal

abbrev with_o : List (List ℕ × List ℕ)
with_o = (codes "a", codes "xyz") ∷ (codes "o", codes "A") ∷ []

abbrev put_o : List (List ℕ × List ℕ)
put_o = (codes "o", codes "A") ∷ one_file

put : FilesPut (Some (holding one_file)) ((codes "o", codes "A") ∷ []) (Some (holding with_o))
put = ap Some (one_shelf with_o put_o refl)

not_put : FilesPut (Some (holding one_file)) ((codes "o", codes "A") ∷ []) (Some (holding one_file)) → ⊥
not_put h = lost one_file put_o (codes "o") (codes "A") refl refl (some_same (holding one_file) (holding put_o) h)

cuts : CutsFile desk (shelf one_file 6) (codes "o", codes "A") (shelf with_o 7)
cuts = record {
  did = ap (λ held. record { files = Some held; faults = 7 }) (one_shelf with_o put_o refl);
  file = (holding one_file, 1, omega arith, refl, one_shelf with_o put_o refl);
  rose = omega arith;
}

abbrev goods_of : Goods ℕ
goods_of = record { outputs = (codes "o", codes "A") ∷ []; text = []; fault = None }

no_output : PutUpTo desk ((codes "o", codes "A") ∷ []) (shelf one_file 6) (codes "a") (shelf one_file 7) → ⊥
no_output (inl (e, h)) = differ (codes "a") (codes "o") refl e
no_output (inr (mid, h, rest)) = rest

-- the value of a take that takes nothing, and whether it is one
abbrev value : Take ℕ ℕ → ℕ
value (ok x) = x
value (refuse why) = 0
value (file name most next) = 0

abbrev is_ok : Take ℕ (List ℕ) → Bool
is_ok (ok x) = true
is_ok (refuse why) = false
is_ok (file name most next) = false

no_file : (x : List ℕ) → whole_file {R = ℕ} 3 (codes "a") ≡ ok x → ⊥
no_file x e = let f : false ≡ true = ap is_ok e in cc

pub returns-clause-done : goal.returns-clause-done
returns-clause-done c = put

pub returns-clause-not_put : goal.returns-clause-not_put
returns-clause-not_put c = not_put

pub returns-clause-unwritten : goal.returns-clause-unwritten
returns-clause-unwritten c = (goods_of, refl, inl (refl, cuts))

pub returns-clause-other_name : goal.returns-clause-other_name
returns-clause-other_name c = λ (goods, m, h).
    no_output (subst (λ (g : Goods ℕ). PutUpTo desk g.outputs (shelf one_file 6) (codes "a") (shelf one_file 7)) (ok_same {F = Refusal ℕ} goods goods_of m) h)

pub returns-clause-unread : goal.returns-clause-unread
returns-clause-unread c = λ h. h

pub returns-clause-needs_none : goal.returns-clause-needs_none
returns-clause-needs_none c = λ x e can.
    subst (λ x. FilesPut (Some (holding one_file)) ((codes "o", x ∷ []) ∷ []) (Some (holding with_o))) (ap value e) put

pub returns-clause-needs_none_not_put : goal.returns-clause-needs_none_not_put
returns-clause-needs_none_not_put c = λ h. not_put (h 0x41 refl tt)

pub returns-clause-takes_a_file : goal.returns-clause-takes_a_file
returns-clause-takes_a_file c = λ x e can. absurd (no_file x e)
