-- By computing.
use Rattle.std.specs.Prelude.{refl}
use Rattle.kx_pages.specs.Bytes.{page_of}
use Rattle.segments.specs.Rules.{bare_refusal, refusal, shape_refusal}
use Rattle.worked_examples.proofs.kernels.too_much.Goals as goal

pub returns-clause-bytes : goal.returns-clause-bytes
unfolding page_of bare_refusal refusal shape_refusal
returns-clause-bytes c = refl

pub returns-clause-sixteen : goal.returns-clause-sixteen
unfolding page_of bare_refusal refusal shape_refusal
returns-clause-sixteen c = refl

pub returns-clause-seventeen : goal.returns-clause-seventeen
unfolding page_of bare_refusal refusal shape_refusal
returns-clause-seventeen c = refl

pub returns-clause-most_pages : goal.returns-clause-most_pages
unfolding page_of bare_refusal refusal shape_refusal
returns-clause-most_pages c = refl

pub returns-clause-pages : goal.returns-clause-pages
unfolding page_of bare_refusal refusal shape_refusal
returns-clause-pages c = refl
