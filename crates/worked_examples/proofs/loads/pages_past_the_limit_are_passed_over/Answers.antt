-- By computing.
use Rattle.std.specs.Prelude.{refl}
use Rattle.kx_pages.specs.Bytes.{page_of}
use Rattle.page_pool.specs.Pages.{left_among, usable_among}
use Rattle.worked_examples.proofs.loads.pages_past_the_limit_are_passed_over.Goals as goal

pub returns-clause-usable : goal.returns-clause-usable
unfolding page_of left_among usable_among
returns-clause-usable c = refl

pub returns-clause-words : goal.returns-clause-words
unfolding page_of left_among usable_among
returns-clause-words c = refl

pub returns-clause-left : goal.returns-clause-left
unfolding page_of left_among usable_among
returns-clause-left c = refl

pub returns-clause-short : goal.returns-clause-short
unfolding page_of left_among usable_among
returns-clause-short c = refl

pub returns-clause-destination : goal.returns-clause-destination
unfolding page_of left_among usable_among
returns-clause-destination c = refl
