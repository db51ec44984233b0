-- By computing.
use Rattle.std.specs.Prelude.{refl}
use Rattle.kx_pages.specs.Bytes.{page_of}
use Rattle.worked_examples.proofs.loads.loaded_page_is_exchanged.Goals as goal

pub returns-clause-exchanged : goal.returns-clause-exchanged
unfolding page_of
returns-clause-exchanged c = refl

pub returns-clause-loading : goal.returns-clause-loading
unfolding page_of
returns-clause-loading c = refl

pub returns-clause-words : goal.returns-clause-words
unfolding page_of
returns-clause-words c = refl

pub returns-clause-own_source : goal.returns-clause-own_source
unfolding page_of
returns-clause-own_source c = λ M. refl

pub returns-clause-other_source : goal.returns-clause-other_source
unfolding page_of
returns-clause-other_source c = λ M. refl

pub returns-clause-destination : goal.returns-clause-destination
unfolding page_of
returns-clause-destination c = λ M. refl
