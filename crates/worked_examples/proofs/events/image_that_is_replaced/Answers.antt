-- By computing.
use Rattle.std.specs.Prelude.{refl}
use Rattle.kx_pages.specs.Bytes.{page_of}
use Rattle.segments.specs.Rules.{refusal, shape_refusal}
use Rattle.worked_examples.proofs.events.image_that_is_replaced.Goals as goal

pub returns-clause-replies : goal.returns-clause-replies
unfolding page_of refusal shape_refusal
returns-clause-replies c = refl

pub returns-clause-left : goal.returns-clause-left
unfolding page_of refusal shape_refusal
returns-clause-left c = refl
