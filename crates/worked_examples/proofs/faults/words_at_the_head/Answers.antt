-- By computing.
use Rattle.std.specs.Prelude.{refl}
use Rattle.kx_pages.specs.Bytes.{page_of}
use Rattle.worked_examples.proofs.faults.words_at_the_head.Goals as goal

pub returns-clause-link : goal.returns-clause-link
unfolding page_of
returns-clause-link c = λ M. refl

pub returns-clause-destination : goal.returns-clause-destination
unfolding page_of
returns-clause-destination c = λ M. refl

pub returns-clause-source : goal.returns-clause-source
unfolding page_of
returns-clause-source c = λ M. refl

pub returns-clause-past_the_limit : goal.returns-clause-past_the_limit
unfolding page_of
returns-clause-past_the_limit c = λ M. refl

pub returns-clause-done : goal.returns-clause-done
unfolding page_of
returns-clause-done c = λ M. refl

pub returns-clause-done_without_pages : goal.returns-clause-done_without_pages
unfolding page_of
returns-clause-done_without_pages c = λ M. refl

pub returns-clause-swap_is_control : goal.returns-clause-swap_is_control
unfolding page_of
returns-clause-swap_is_control c = λ M. refl
