-- By computing.
use Rattle.std.specs.Prelude.{refl}
use Rattle.kx_pages.specs.Bytes.{page_of}
use Rattle.worked_examples.proofs.loads.pool_pages_are_their_own_destinations.Goals as goal

pub returns-clause-requests : goal.returns-clause-requests
unfolding page_of
returns-clause-requests c = refl

pub returns-clause-control_page : goal.returns-clause-control_page
unfolding page_of
returns-clause-control_page c = refl

pub returns-clause-filed_page : goal.returns-clause-filed_page
unfolding page_of
returns-clause-filed_page c = refl

pub returns-clause-loading : goal.returns-clause-loading
unfolding page_of
returns-clause-loading c = refl

pub returns-clause-words : goal.returns-clause-words
unfolding page_of
returns-clause-words c = refl

pub returns-clause-image : goal.returns-clause-image
unfolding page_of
returns-clause-image c = refl
