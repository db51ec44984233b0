-- By computing.
use Rattle.std.specs.Prelude.{refl}
use Rattle.kx_pages.specs.Bytes.{page_of}
use Rattle.worked_examples.proofs.faults.words_that_link.Goals as goal

pub returns-clause-again : goal.returns-clause-again
unfolding page_of
returns-clause-again c = λ M. refl

pub returns-clause-destination : goal.returns-clause-destination
unfolding page_of
returns-clause-destination c = λ M. refl

pub returns-clause-source : goal.returns-clause-source
unfolding page_of
returns-clause-source c = λ M. refl

pub returns-clause-source_kept : goal.returns-clause-source_kept
unfolding page_of
returns-clause-source_kept c = λ M. refl

pub returns-clause-control : goal.returns-clause-control
unfolding page_of
returns-clause-control c = λ M. refl

pub returns-clause-swap : goal.returns-clause-swap
unfolding page_of
returns-clause-swap c = λ M. refl

pub returns-clause-last_slot : goal.returns-clause-last_slot
unfolding page_of
returns-clause-last_slot c = λ M. refl

pub returns-clause-past_the_limit : goal.returns-clause-past_the_limit
unfolding page_of
returns-clause-past_the_limit c = λ M. refl
