-- By what was read, made and put.
use Rattle.std.proofs.Common.{◌≡◌, ◌∙◌, ℕ, List, [], ◌∷◌, Some, None, Result, Ok, Err, Bool, true, false, cond, length, take, refl, sym, ap, arith, inl, inr}
use Rattle.std.specs.Prelude.{codes}
use Rattle.std.specs.Prelude.{◌⊎◌, nat_lt, unwrap_or}
use Rattle.file_commands.specs.Answers.{BreaksText, CutsFile, PutAll, PutsFile, SaysText}
use Rattle.file_commands.specs.Files.{whole_file}
use Rattle.file_commands.specs.Taking.{FailedAt, GivesFile, Refusal, Took, WantedAt, by, ok, reads, refuse, too_long}
use Rattle.file_commands.proofs.Steps.{took_told}
use Rattle.worked_commands.specs.Shelves.{Desk, desk, holding, slate}
use Rattle.worked_commands.specs.Answers.{copy_goods, copies, one_file, slate_with, shelf}
use Rattle.worked_commands.proofs.Shelves.{differ, got, one_shelf}
use Rattle.worked_commands.proofs.Copies.{not_refused, read_here, x_is}
use Rattle.worked_commands.proofs.answers.answers_by_calls.Goals as goal

abbrev with_o : List (List ℕ × List ℕ)
with_o = (codes "o", codes "xyz") ∷ one_file

gave : GivesFile desk (shelf one_file 6) (codes "a") 4 (codes "xyz") (shelf one_file 6)
gave = record {
  took = refl;
  same = record { files = refl; faults = refl };
  told = ap (λ o. take 4 (unwrap_or o [])) (sym (got one_file (codes "a")));
}

took : Took {R = ℕ} desk (whole_file 3 (codes "a")) (shelf one_file 6) (Ok (codes "xyz")) (shelf one_file 6)
unfolding Took
took = (codes "xyz", shelf one_file 6, gave, (refl, refl))

puts_o : PutsFile desk (shelf one_file 6) (codes "o", codes "xyz") (shelf with_o 6)
puts_o = record { did = refl; file = refl; calm = refl }

abbrev whole : List (List ℕ × List ℕ)
whole = (codes "a", codes "xyz") ∷ (codes "o", codes "xyz") ∷ (codes "r", codes "12") ∷ []

abbrev cut : List (List ℕ × List ℕ)
cut = (codes "a", codes "xyz") ∷ (codes "o", codes "xyz") ∷ (codes "r", codes "1") ∷ []

puts_r : PutsFile desk (shelf with_o 6) (codes "r", codes "12") (shelf whole 6)
puts_r = record {
  did = ap (λ held. record { files = Some held; faults = 6 }) (one_shelf whole ((codes "r", codes "12") ∷ with_o) refl);
  file = ap Some (one_shelf whole ((codes "r", codes "12") ∷ with_o) refl);
  calm = refl;
}

cuts_r : CutsFile desk (shelf with_o 6) (codes "r", codes "12") (shelf cut 7)
cuts_r = record {
  did = ap (λ held. record { files = Some held; faults = 7 }) (one_shelf cut ((codes "r", codes "1") ∷ with_o) refl);
  file = (holding with_o, 1, omega arith, refl, one_shelf cut ((codes "r", codes "1") ∷ with_o) refl);
  rose = omega arith;
}

abbrev outputs : List (List ℕ × List ℕ)
outputs = (codes "o", codes "xyz") ∷ (codes "r", codes "12") ∷ []

put_all : PutAll desk outputs (shelf one_file 6) (shelf whole 6)
put_all = (shelf with_o 6, puts_o, (shelf whole 6, puts_r, refl))

says : SaysText slate (slate_with (codes "!") 8) (codes "ok\n") (slate_with (codes "!ok\n") 8)
says = record { did = refl; said = refl; calm = refl }

breaks : BreaksText slate (slate_with (codes "!") 8) (codes "ok\n") (slate_with (codes "!o") 9)
breaks = record { did = refl; said = (codes "!", 1, omega arith, refl, refl); rose = omega arith }

pub returns-clause-done : goal.returns-clause-done
returns-clause-done c = (codes "xyz", copy_goods None (codes "xyz"), shelf one_file 6, took, refl, (refl, put_all, says))

pub returns-clause-fault_is_answered : goal.returns-clause-fault_is_answered
returns-clause-fault_is_answered c = (codes "xyz", copy_goods (Some 9) (codes "xyz"), shelf one_file 6, took, refl, (refl, put_all, says))

pub returns-clause-unwritten : goal.returns-clause-unwritten
returns-clause-unwritten c = (
  codes "xyz",
  copy_goods None (codes "xyz"),
  shelf one_file 6,
  took,
  refl,
  (inr (shelf with_o 6, puts_o, inl (refl, cuts_r)), refl),
)

pub returns-clause-unsaid : goal.returns-clause-unsaid
returns-clause-unsaid c = (codes "xyz", copy_goods None (codes "xyz"), shelf one_file 6, took, refl, (put_all, breaks))

pub returns-clause-unread : goal.returns-clause-unread
unfolding FailedAt
returns-clause-unread c = (inl (refl, record { took = refl; files = refl; rose = omega arith }), refl)

-- a check of a length fails no take
no_check : (b : Bool) (why : Refusal ℕ) (y : List ℕ) (mid : Desk) (name : List ℕ) → FailedAt {R = ℕ} desk (cond b (refuse why) (ok y)) mid name (shelf one_file 7) → ⊥
unfolding FailedAt
no_check true why y mid name h = h
no_check false why y mid name h = h

no_other : FailedAt {R = ℕ} desk (whole_file 3 (codes "a")) (shelf one_file 6) (codes "o") (shelf one_file 7) → ⊥
unfolding FailedAt
no_other (inl (e, f)) = differ (codes "o") (codes "a") refl e
no_other (inr (bytes, mid, g, rest)) = no_check (nat_lt 3 (length bytes)) (too_long (codes "a") 3) bytes mid (codes "o") rest

pub returns-clause-unread_of_another_name : goal.returns-clause-unread_of_another_name
returns-clause-unread_of_another_name c = λ h. no_other h.0

pub returns-clause-memory : goal.returns-clause-memory
unfolding WantedAt
returns-clause-memory c = (inl refl, refl)

refused : (Took {R = ℕ} desk (whole_file 3 (codes "a")) (shelf one_file 6) (Err (by 7)) (shelf one_file 6) ⊎ ((x : List ℕ) × Took {R = ℕ} desk (whole_file 3 (codes "a")) (shelf one_file 6) (Ok x) (shelf one_file 6) × copies None x (Err (by 7)))) → ⊥
refused (inl h) =
    let read : reads (whole_file {R = ℕ} 3 (codes "a")) (holding one_file) ≡ Err (by 7) = took_told desk (whole_file 3 (codes "a")) (shelf one_file 6) (shelf one_file 6) (Err (by 7)) h in
    let f : ◌≡◌ {A = Result (List ℕ) (Refusal ℕ)} (Err (by 7)) (Ok (codes "xyz")) = sym read ∙ read_here in
    cc
refused (inr (x, h, m)) = not_refused None x (by 7) (x_is x (took_told desk (whole_file 3 (codes "a")) (shelf one_file 6) (shelf one_file 6) (Ok x) h)) m

pub returns-clause-not_refused : goal.returns-clause-not_refused
returns-clause-not_refused c = λ h. refused h.0
