-- By what was read, made and put.
use Rattle.std.proofs.Common.{◌≡◌, ◌∙◌, ℕ, List, [], ◌∷◌, Option, Some, None, Result, Ok, Err, refl, sym, ap, arith, inl, inr}
use Rattle.std.specs.Prelude.{◌⊎◌, codes}
use Rattle.file_commands.specs.Answers.{Goods, GoesOut}
use Rattle.file_commands.specs.Files.{whole_file}
use Rattle.file_commands.specs.Taking.{Refusal, by, reads}
use Rattle.worked_commands.specs.Shelves.{desk, holding, slate}
use Rattle.worked_commands.specs.Answers.{copy_goods, copies, one_file, slate_with, shelf}
use Rattle.worked_commands.proofs.Shelves.{differ, lost, one_shelf}
use Rattle.worked_commands.proofs.Copies.{made, not_refused, put, read_here, told, x_is}
use Rattle.worked_commands.proofs.answers.answers_over_told_files.Goals as goal

abbrev whole : List (List ℕ × List ℕ)
whole = (codes "a", codes "xyz") ∷ (codes "o", codes "xyz") ∷ (codes "r", codes "12") ∷ []

abbrev both : List (List ℕ × List ℕ)
both = (codes "r", codes "12") ∷ (codes "o", codes "xyz") ∷ one_file

out : (fault : Option ℕ) → GoesOut desk slate (copy_goods fault (codes "xyz")) (shelf one_file 6) (slate_with (codes "!") 8) (shelf whole 6) (slate_with (codes "!ok\n") 8)
out fault = record {
  shelf = refl;
  sink = refl;
  put = ap Some (one_shelf whole both refl);
  said = refl;
}

pub returns-clause-done : goal.returns-clause-done
returns-clause-done c = (codes "xyz", copy_goods None (codes "xyz"), read_here, refl, refl, out None)

pub returns-clause-not_said : goal.returns-clause-not_said
returns-clause-not_said c = λ (x, goods, read, m, fault, o). differ (codes "!") (codes "!ok\n") refl (told None (codes "!") goods (made None x goods (x_is x read) m) o.said)

pub returns-clause-not_put : goal.returns-clause-not_put
returns-clause-not_put c = λ (x, goods, read, m, fault, o).
    lost ((codes "a", codes "xyz") ∷ (codes "o", codes "xyz") ∷ []) both (codes "r") (codes "12") refl refl (put None ((codes "a", codes "xyz") ∷ (codes "o", codes "xyz") ∷ []) goods (made None x goods (x_is x read) m) o.put)

pub returns-clause-fault_is_answered : goal.returns-clause-fault_is_answered
returns-clause-fault_is_answered c = (codes "xyz", copy_goods (Some 9) (codes "xyz"), read_here, refl, refl, out (Some 9))

pub returns-clause-fault_is_not_done : goal.returns-clause-fault_is_not_done
returns-clause-fault_is_not_done c = λ (x, goods, read, m, fault, o).
    let e : ◌≡◌ {A = Option ℕ} None (Some 9) = sym fault ∙ ap (λ (g : Goods ℕ). g.fault) (made (Some 9) x goods (x_is x read) m) in
    cc

pub returns-clause-unwritten : goal.returns-clause-unwritten
returns-clause-unwritten c = (
  codes "xyz",
  copy_goods None (codes "xyz"),
  read_here,
  refl,
  record {
    shelf = omega arith;
    sink = refl;
    put = (
      (codes "o", codes "xyz") ∷ [],
      codes "12",
      [],
      refl,
      (holding one_file, 1, omega arith, refl, one_shelf ((codes "a", codes "xyz") ∷ (codes "o", codes "xyz") ∷ (codes "r", codes "1") ∷ []) ((codes "r", codes "1") ∷ (codes "o", codes "xyz") ∷ one_file) refl),
    );
  },
)

pub returns-clause-uncounted : goal.returns-clause-uncounted
returns-clause-uncounted c = λ h. omega (arith, h.4.shelf)

pub returns-clause-unsaid : goal.returns-clause-unsaid
returns-clause-unsaid c = (
  codes "xyz",
  copy_goods None (codes "xyz"),
  read_here,
  refl,
  record {
    shelf = refl;
    sink = omega arith;
    put = ap Some (one_shelf whole both refl);
    said = (codes "!", 1, omega arith, refl, refl);
  },
)

pub returns-clause-unread : goal.returns-clause-unread
returns-clause-unread c = (omega arith, refl)

pub returns-clause-memory : goal.returns-clause-memory
returns-clause-memory c = record { files = refl; faults = refl }

-- what was read is not refused
refused : ((reads (whole_file {R = ℕ} 3 (codes "a")) (holding one_file) ≡ Err (by 7)) ⊎ ((x : List ℕ) × (reads (whole_file {R = ℕ} 3 (codes "a")) (holding one_file) ≡ Ok x) × copies None x (Err (by 7)))) → ⊥
refused (inl e) = let f : ◌≡◌ {A = Result (List ℕ) (Refusal ℕ)} (Err (by 7)) (Ok (codes "xyz")) = sym e ∙ read_here in cc
refused (inr (x, read, m)) = not_refused None x (by 7) (x_is x read) m

pub returns-clause-not_refused : goal.returns-clause-not_refused
returns-clause-not_refused c = λ h. refused h.0
