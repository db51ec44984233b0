-- By computing.
use Rattle.std.specs.Prelude.{refl}
use Rattle.kx_pages.specs.Bytes.{page_of}
use Rattle.worked_examples.proofs.loads.one_page_kernel.Goals as goal

pub returns-clause-entries : goal.returns-clause-entries
unfolding page_of
returns-clause-entries c = refl

pub returns-clause-loading : goal.returns-clause-loading
unfolding page_of
returns-clause-loading c = refl

pub returns-clause-words : goal.returns-clause-words
unfolding page_of
returns-clause-words c = refl

pub returns-clause-image : goal.returns-clause-image
unfolding page_of
returns-clause-image c = refl

pub returns-clause-link_page : goal.returns-clause-link_page
unfolding page_of
returns-clause-link_page c = λ M. refl

pub returns-clause-source : goal.returns-clause-source
unfolding page_of
returns-clause-source c = λ M. refl

pub returns-clause-destination : goal.returns-clause-destination
unfolding page_of
returns-clause-destination c = λ M. refl

pub returns-clause-control_page : goal.returns-clause-control_page
unfolding page_of
returns-clause-control_page c = λ M. refl
