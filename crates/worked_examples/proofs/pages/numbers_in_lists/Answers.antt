-- By computing, and number by number.
use Rattle.std.proofs.Common.{refl, arith, inl, inr, ⊎_elim}
use Rattle.worked_examples.proofs.pages.numbers_in_lists.Goals as goal

pub returns-clause-counted : goal.returns-clause-counted
returns-clause-counted c = refl

pub returns-clause-there : goal.returns-clause-there
returns-clause-there c = refl

pub returns-clause-places : goal.returns-clause-places
returns-clause-places c = refl

pub returns-clause-destinations : goal.returns-clause-destinations
returns-clause-destinations c = refl

pub returns-clause-sources : goal.returns-clause-sources
returns-clause-sources c = refl

pub returns-clause-first : goal.returns-clause-first
returns-clause-first c = inl refl

pub returns-clause-last : goal.returns-clause-last
returns-clause-last c = inr (inl refl)

pub returns-clause-no_other : goal.returns-clause-no_other
returns-clause-no_other c = ⊎_elim (λ e. omega (arith, e)) (⊎_elim (λ e. omega (arith, e)) (λ none. none))

pub returns-clause-none_twice : goal.returns-clause-none_twice
returns-clause-none_twice c = ((omega arith, (omega arith, tt)), ((omega arith, tt), (tt, tt)))

pub returns-clause-first_twice : goal.returns-clause-first_twice
returns-clause-first_twice c = λ d. d.0.1.0 refl

pub returns-clause-second_twice : goal.returns-clause-second_twice
returns-clause-second_twice c = λ d. d.1.0.0 refl
