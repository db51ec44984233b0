-- By arithmetic.
use Rattle.std.proofs.Common.{arith, inl, inr}
use Rattle.worked_plans.proofs.plans.tables_that_are_apart.Goals as goal

pub returns-clause-digest_behind : goal.returns-clause-digest_behind
returns-clause-digest_behind c = inl (omega arith)

pub returns-clause-digest_too_near : goal.returns-clause-digest_too_near
returns-clause-digest_too_near c = λ h. elim h [ inl l ↦ omega (arith, l) | inr l ↦ omega (arith, l) ]

pub returns-clause-digest_in_front : goal.returns-clause-digest_in_front
returns-clause-digest_in_front c = inr (omega arith)

pub returns-clause-digest_into_the_table : goal.returns-clause-digest_into_the_table
returns-clause-digest_into_the_table c = λ h. elim h [ inl l ↦ omega (arith, l) | inr l ↦ omega (arith, l) ]

pub returns-clause-no_purgatory : goal.returns-clause-no_purgatory
returns-clause-no_purgatory c = λ h. elim h [ inl l ↦ omega (arith, l) | inr l ↦ omega (arith, l) ]
