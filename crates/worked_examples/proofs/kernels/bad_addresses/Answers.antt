-- By computing.
use Rattle.std.specs.Prelude.{refl}
use Rattle.kx_pages.specs.Bytes.{page_of}
use Rattle.segments.specs.Rules.{bare_refusal, refusal, shape_refusal}
use Rattle.worked_examples.proofs.kernels.bad_addresses.Goals as goal

pub returns-clause-inside_a_page : goal.returns-clause-inside_a_page
unfolding page_of bare_refusal refusal shape_refusal
returns-clause-inside_a_page c = refl

pub returns-clause-at_the_limit : goal.returns-clause-at_the_limit
unfolding page_of bare_refusal refusal shape_refusal
returns-clause-at_the_limit c = refl

pub returns-clause-below_the_limit : goal.returns-clause-below_the_limit
unfolding page_of bare_refusal refusal shape_refusal
returns-clause-below_the_limit c = refl

pub returns-clause-errno : goal.returns-clause-errno
unfolding page_of bare_refusal refusal shape_refusal
returns-clause-errno c = refl

pub returns-clause-none : goal.returns-clause-none
unfolding page_of bare_refusal refusal shape_refusal
returns-clause-none c = refl
