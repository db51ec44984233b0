-- By computing.
use Rattle.std.specs.Prelude.{refl}
use Rattle.kx_pages.specs.Bytes.{page_of}
use Rattle.segments.specs.Rules.{bare_refusal, refusal, shape_refusal}
use Rattle.worked_examples.proofs.kernels.pages_needed.Goals as goal

pub returns-clause-one : goal.returns-clause-one
unfolding page_of bare_refusal refusal shape_refusal
returns-clause-one c = refl

pub returns-clause-two : goal.returns-clause-two
unfolding page_of bare_refusal refusal shape_refusal
returns-clause-two c = refl

pub returns-clause-two_kept : goal.returns-clause-two_kept
unfolding page_of bare_refusal refusal shape_refusal
returns-clause-two_kept c = refl

pub returns-clause-none : goal.returns-clause-none
unfolding page_of bare_refusal refusal shape_refusal
returns-clause-none c = refl

pub returns-clause-one_link_page : goal.returns-clause-one_link_page
unfolding page_of bare_refusal refusal shape_refusal
returns-clause-one_link_page c = refl

pub returns-clause-two_link_pages : goal.returns-clause-two_link_pages
unfolding page_of bare_refusal refusal shape_refusal
returns-clause-two_link_pages c = refl

pub returns-clause-two_segments : goal.returns-clause-two_segments
unfolding page_of bare_refusal refusal shape_refusal
returns-clause-two_segments c = refl
