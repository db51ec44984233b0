-- By what is held, and then by computing.
use Rattle.std.proofs.Common.{ℕ, List, [], ◌∷◌}
use Rattle.std.specs.Prelude.{codes}
use Rattle.file_commands.specs.Taking.{and_then}
use Rattle.worked_commands.specs.Takes.{a_then_b, a_then_rest}
use Rattle.worked_commands.proofs.Reading.{read_by}
use Rattle.worked_commands.proofs.takes.takes_one_after_another.Goals as goal

abbrev files : List (List ℕ × List ℕ)
files = (codes "a", codes "xyz") ∷ (codes "b", codes "vw") ∷ []

pub returns-clause-both : goal.returns-clause-both
unfolding and_then
returns-clause-both c = read_by files (a_then_b 3 2)

pub returns-clause-first_fault : goal.returns-clause-first_fault
unfolding and_then
returns-clause-first_fault c = read_by files (a_then_b 2 1)

pub returns-clause-second_fault : goal.returns-clause-second_fault
unfolding and_then
returns-clause-second_fault c = read_by files (a_then_b 3 1)

pub returns-clause-by_the_first : goal.returns-clause-by_the_first
unfolding and_then
returns-clause-by_the_first c = read_by files a_then_rest
