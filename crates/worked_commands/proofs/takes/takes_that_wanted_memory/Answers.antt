-- A shelf that is written down stays as it is where memory is wanting.
use Rattle.std.proofs.Common.{◌≡◌, ◌∙◌, refl, ap, arith, inl, inr}
use Rattle.file_commands.specs.Taking.{Take, WantedAt, and_then, file, ok, refuse}
use Rattle.worked_commands.specs.Shelves.{Desk, desk}
use Rattle.worked_commands.specs.Takes.{a_then_b, calm, failed_once}
use Rattle.worked_commands.proofs.takes.takes_that_wanted_memory.Goals as goal

stays : {R X : Type 0} (t : Take R X) (s new : Desk) → WantedAt desk t s new → new ≡ s
unfolding WantedAt
stays (ok x) s new h = h
stays (refuse a) s new h = h
stays (file name most next) s new (inl h) = h
stays (file name most next) s new (inr (inl h)) = h.took
stays (file name most next) s new (inr (inr (bytes, mid, gave, more))) = stays (next bytes) mid new more ∙ gave.took

no_fault : failed_once ≡ calm → ⊥
no_fault e = let f : 7 ≡ 6 = ap (λ (s : Desk). s.faults) e in omega (arith, f)

pub returns-clause-wanted : goal.returns-clause-wanted
returns-clause-wanted c = record { took = refl; same = record { files = refl; faults = refl } }

pub returns-clause-counted : goal.returns-clause-counted
returns-clause-counted c = λ h. no_fault h.took

pub returns-clause-of_two_takes : goal.returns-clause-of_two_takes
unfolding WantedAt and_then
returns-clause-of_two_takes c = inl refl

pub returns-clause-of_no_take : goal.returns-clause-of_no_take
unfolding WantedAt
returns-clause-of_no_take c = refl

pub returns-clause-never_counted : goal.returns-clause-never_counted
returns-clause-never_counted c = λ h. no_fault (stays (a_then_b 3 2) calm failed_once h)
