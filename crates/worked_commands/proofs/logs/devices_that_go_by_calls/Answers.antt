-- By computing.
use Rattle.std.proofs.Common.{◌≡◌, ◌∷◌, refl, ap, arith}
use Rattle.std.specs.Prelude.{codes}
use Rattle.worked_commands.specs.Answers.{one_file, shelf, slate_with}
use Rattle.worked_commands.specs.Shelves.{Desk, holding}
use Rattle.worked_commands.proofs.logs.devices_that_go_by_calls.Goals as goal

pub returns-clause-shelf : goal.returns-clause-shelf
returns-clause-shelf c = (
  shelf one_file 6,
  refl,
  (shelf ((codes "o", codes "xyz") ∷ one_file) 6, refl, (shelf ((codes "r", codes "12") ∷ (codes "o", codes "xyz") ∷ one_file) 6, refl, refl)),
)

pub returns-clause-no_call : goal.returns-clause-no_call
returns-clause-no_call c = λ e. let f : 7 ≡ 6 = ap (λ (s : Desk). s.faults) e in omega (arith, f)

pub returns-clause-said_to_a_shelf : goal.returns-clause-said_to_a_shelf
returns-clause-said_to_a_shelf c = λ h. h

pub returns-clause-failed : goal.returns-clause-failed
returns-clause-failed c = (shelf one_file 7, refl, refl)

pub returns-clause-sink : goal.returns-clause-sink
returns-clause-sink c = (slate_with (codes "!ok\n") 8, refl, refl)

pub returns-clause-put_to_a_sink : goal.returns-clause-put_to_a_sink
returns-clause-put_to_a_sink c = λ h. h

pub returns-clause-of_files : goal.returns-clause-of_files
returns-clause-of_files c = (holding ((codes "o", codes "xyz") ∷ one_file), refl, refl)

pub returns-clause-of_bytes : goal.returns-clause-of_bytes
returns-clause-of_bytes c = (codes "!ok\n", refl, refl)
