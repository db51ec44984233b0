-- By computing.
use Rattle.std.proofs.Common.{refl}
use Rattle.kexec_plan.specs.Purgatory.{symbol_address, symbol_place}
use Rattle.purgatory_link.specs.Set.{symbol_of}
use Rattle.worked_plans.proofs.purgatories.places_of_symbols.Goals as goal

pub returns-clause-none : goal.returns-clause-none
returns-clause-none c = refl

pub returns-clause-here : goal.returns-clause-here
returns-clause-here c = refl

pub returns-clause-other_size : goal.returns-clause-other_size
returns-clause-other_size c = refl

pub returns-clause-past_the_end : goal.returns-clause-past_the_end
returns-clause-past_the_end c = refl

pub returns-clause-before_the_start : goal.returns-clause-before_the_start
returns-clause-before_the_start c = refl

pub returns-clause-named : goal.returns-clause-named
unfolding symbol_place symbol_of
returns-clause-named c = refl

pub returns-clause-named_twice : goal.returns-clause-named_twice
unfolding symbol_place symbol_of
returns-clause-named_twice c = refl

pub returns-clause-not_named : goal.returns-clause-not_named
unfolding symbol_place symbol_of
returns-clause-not_named c = refl

pub returns-clause-address : goal.returns-clause-address
returns-clause-address c = refl

pub returns-clause-no_address : goal.returns-clause-no_address
returns-clause-no_address c = refl

pub returns-clause-address_of_a_name : goal.returns-clause-address_of_a_name
unfolding symbol_address symbol_of
returns-clause-address_of_a_name c = refl

pub returns-clause-address_of_no_name : goal.returns-clause-address_of_no_name
unfolding symbol_address symbol_of
returns-clause-address_of_no_name c = refl
