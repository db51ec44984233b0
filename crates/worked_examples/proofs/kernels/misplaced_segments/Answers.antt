-- By computing.
use Rattle.std.specs.Prelude.{refl}
use Rattle.kx_pages.specs.Bytes.{page_of}
use Rattle.segments.specs.Rules.{bare_refusal, refusal, shape_refusal}
use Rattle.worked_examples.proofs.kernels.misplaced_segments.Goals as goal

pub returns-clause-no_memory : goal.returns-clause-no_memory
unfolding page_of bare_refusal refusal shape_refusal
returns-clause-no_memory c = refl

pub returns-clause-inside : goal.returns-clause-inside
unfolding page_of bare_refusal refusal shape_refusal
returns-clause-inside c = refl

pub returns-clause-behind : goal.returns-clause-behind
unfolding page_of bare_refusal refusal shape_refusal
returns-clause-behind c = refl

pub returns-clause-before : goal.returns-clause-before
unfolding page_of bare_refusal refusal shape_refusal
returns-clause-before c = refl

pub returns-clause-behind_a_high_area : goal.returns-clause-behind_a_high_area
unfolding page_of bare_refusal refusal shape_refusal
returns-clause-behind_a_high_area c = refl

pub returns-clause-errno : goal.returns-clause-errno
unfolding page_of bare_refusal refusal shape_refusal
returns-clause-errno c = refl
