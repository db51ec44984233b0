-- By what is held, and then by computing.
use Rattle.std.proofs.Common.{ℕ, List, [], ◌∷◌}
use Rattle.std.specs.Prelude.{codes}
use Rattle.file_commands.specs.Files.{all_files, more_files}
use Rattle.file_commands.specs.Taking.{and_then}
use Rattle.worked_commands.proofs.Reading.{read_by}
use Rattle.worked_commands.proofs.takes.files_within_a_budget.Goals as goal

abbrev files : List (List ℕ × List ℕ)
files = (codes "a", codes "xyz") ∷ (codes "b", codes "vw") ∷ []

pub returns-clause-none : goal.returns-clause-none
unfolding and_then
returns-clause-none c = read_by files (all_files {R = ℕ} 0 [])

pub returns-clause-exactly : goal.returns-clause-exactly
unfolding and_then
returns-clause-exactly c = read_by files (all_files {R = ℕ} 5 (codes "a" ∷ codes "b" ∷ []))

pub returns-clause-second_is_too_long : goal.returns-clause-second_is_too_long
unfolding and_then
returns-clause-second_is_too_long c = read_by files (all_files {R = ℕ} 4 (codes "a" ∷ codes "b" ∷ []))

pub returns-clause-first_is_too_long : goal.returns-clause-first_is_too_long
unfolding and_then
returns-clause-first_is_too_long c = read_by files (all_files {R = ℕ} 2 (codes "a" ∷ codes "b" ∷ []))

pub returns-clause-in_their_order : goal.returns-clause-in_their_order
unfolding and_then
returns-clause-in_their_order c = read_by files (all_files {R = ℕ} 5 (codes "b" ∷ codes "a" ∷ []))

pub returns-clause-one_name_twice : goal.returns-clause-one_name_twice
unfolding and_then
returns-clause-one_name_twice c = read_by files (all_files {R = ℕ} 5 (codes "a" ∷ codes "a" ∷ []))

pub returns-clause-behind_others : goal.returns-clause-behind_others
unfolding and_then
returns-clause-behind_others c = read_by files (more_files {R = ℕ} 2 (codes "b" ∷ []) ((codes "a", []) ∷ []))
