use Rattle.relocate_machine.specs.inner.Reading.{IsIn, IsRead}
use Rattle.relocate_machine.proofs.reading.read_page.Given as goal

-- so many words were read up to this place
abbrev pub invariant-loop-steps : goal.invariant-loop-steps
invariant-loop-steps l = record { read : IsRead l.page l.steps l.fn.from l.at; place : IsIn l.fn.from.cursor l.at }
