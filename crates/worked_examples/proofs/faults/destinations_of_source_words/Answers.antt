-- By computing.
use Rattle.std.specs.Prelude.{refl}
use Rattle.kx_pages.specs.Bytes.{page_of}
use Rattle.worked_examples.proofs.faults.destinations_of_source_words.Goals as goal

pub returns-clause-last_slot : goal.returns-clause-last_slot
unfolding page_of
returns-clause-last_slot c = λ M. refl

pub returns-clause-destination_in_the_last_slot : goal.returns-clause-destination_in_the_last_slot
unfolding page_of
returns-clause-destination_in_the_last_slot c = λ M. refl

pub returns-clause-none : goal.returns-clause-none
unfolding page_of
returns-clause-none c = λ M. refl

pub returns-clause-unwanted : goal.returns-clause-unwanted
unfolding page_of
returns-clause-unwanted c = λ M. refl

pub returns-clause-twice : goal.returns-clause-twice
unfolding page_of
returns-clause-twice c = λ M. refl

pub returns-clause-link_page : goal.returns-clause-link_page
unfolding page_of
returns-clause-link_page c = λ M. refl

pub returns-clause-control : goal.returns-clause-control
unfolding page_of
returns-clause-control c = λ M. refl

pub returns-clause-swap : goal.returns-clause-swap
unfolding page_of
returns-clause-swap c = λ M. refl

pub returns-clause-earlier_source : goal.returns-clause-earlier_source
unfolding page_of
returns-clause-earlier_source c = λ M. refl
