-- By computing.
use Rattle.std.specs.Prelude.{refl}
use Rattle.kx_pages.specs.Bytes.{page_of}
use Rattle.segments.specs.Rules.{bare_refusal, refusal, shape_refusal}
use Rattle.worked_examples.proofs.kernels.two_pages_are_wanted.Goals as goal

pub returns-clause-pages : goal.returns-clause-pages
unfolding page_of bare_refusal refusal shape_refusal
returns-clause-pages c = refl

pub returns-clause-first : goal.returns-clause-first
unfolding page_of bare_refusal refusal shape_refusal
returns-clause-first c = refl

pub returns-clause-second : goal.returns-clause-second
unfolding page_of bare_refusal refusal shape_refusal
returns-clause-second c = refl

pub returns-clause-behind : goal.returns-clause-behind
unfolding page_of bare_refusal refusal shape_refusal
returns-clause-behind c = refl

pub returns-clause-behind_another_segment : goal.returns-clause-behind_another_segment
unfolding page_of bare_refusal refusal shape_refusal
returns-clause-behind_another_segment c = refl
