-- By computing.
use Rattle.std.specs.Prelude.{refl}
use Rattle.kx_pages.specs.Bytes.{page_of}
use Rattle.worked_examples.proofs.faults.done_words.Goals as goal

pub returns-clause-none_yet : goal.returns-clause-none_yet
unfolding page_of
returns-clause-none_yet c = λ M. refl

pub returns-clause-one_yet : goal.returns-clause-one_yet
unfolding page_of
returns-clause-one_yet c = λ M. refl

pub returns-clause-all : goal.returns-clause-all
unfolding page_of
returns-clause-all c = λ M. refl

pub returns-clause-last_slot : goal.returns-clause-last_slot
unfolding page_of
returns-clause-last_slot c = λ M. refl
