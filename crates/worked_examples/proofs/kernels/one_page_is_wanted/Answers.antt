-- By computing.
use Rattle.std.specs.Prelude.{refl}
use Rattle.kx_pages.specs.Bytes.{page_of}
use Rattle.segments.specs.Rules.{bare_refusal, refusal, shape_refusal}
use Rattle.worked_examples.proofs.kernels.one_page_is_wanted.Goals as goal

pub returns-clause-page : goal.returns-clause-page
unfolding page_of bare_refusal refusal shape_refusal
returns-clause-page c = refl

pub returns-clause-before : goal.returns-clause-before
unfolding page_of bare_refusal refusal shape_refusal
returns-clause-before c = refl

pub returns-clause-behind : goal.returns-clause-behind
unfolding page_of bare_refusal refusal shape_refusal
returns-clause-behind c = refl

pub returns-clause-high : goal.returns-clause-high
unfolding page_of bare_refusal refusal shape_refusal
returns-clause-high c = refl

pub returns-clause-changed : goal.returns-clause-changed
unfolding page_of bare_refusal refusal shape_refusal
returns-clause-changed c = λ M. refl

pub returns-clause-unchanged : goal.returns-clause-unchanged
unfolding page_of bare_refusal refusal shape_refusal
returns-clause-unchanged c = λ M. refl

pub returns-clause-passes : goal.returns-clause-passes
unfolding page_of bare_refusal refusal shape_refusal
returns-clause-passes c = refl
