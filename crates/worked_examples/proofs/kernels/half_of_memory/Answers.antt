-- By computing.
use Rattle.std.specs.Prelude.{refl}
use Rattle.kx_pages.specs.Bytes.{page_of}
use Rattle.segments.specs.Rules.{bare_refusal, refusal, shape_refusal}
use Rattle.worked_examples.proofs.kernels.half_of_memory.Goals as goal

pub returns-clause-four : goal.returns-clause-four
unfolding page_of bare_refusal refusal shape_refusal
returns-clause-four c = refl

pub returns-clause-five : goal.returns-clause-five
unfolding page_of bare_refusal refusal shape_refusal
returns-clause-five c = refl

pub returns-clause-together : goal.returns-clause-together
unfolding page_of bare_refusal refusal shape_refusal
returns-clause-together c = refl

pub returns-clause-errno : goal.returns-clause-errno
unfolding page_of bare_refusal refusal shape_refusal
returns-clause-errno c = refl
