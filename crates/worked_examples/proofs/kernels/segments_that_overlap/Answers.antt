-- By computing.
use Rattle.std.specs.Prelude.{refl}
use Rattle.kx_pages.specs.Bytes.{page_of}
use Rattle.segments.specs.Rules.{bare_refusal, refusal, shape_refusal}
use Rattle.worked_examples.proofs.kernels.segments_that_overlap.Goals as goal

pub returns-clause-touching : goal.returns-clause-touching
unfolding page_of bare_refusal refusal shape_refusal
returns-clause-touching c = refl

pub returns-clause-shared : goal.returns-clause-shared
unfolding page_of bare_refusal refusal shape_refusal
returns-clause-shared c = refl

pub returns-clause-empty_inside : goal.returns-clause-empty_inside
unfolding page_of bare_refusal refusal shape_refusal
returns-clause-empty_inside c = refl

pub returns-clause-empty_at_the_start : goal.returns-clause-empty_at_the_start
unfolding page_of bare_refusal refusal shape_refusal
returns-clause-empty_at_the_start c = refl

pub returns-clause-empty_at_the_start_behind : goal.returns-clause-empty_at_the_start_behind
unfolding page_of bare_refusal refusal shape_refusal
returns-clause-empty_at_the_start_behind c = refl
