use Rattle.kx_pages.proofs.Same.{same_spans}
use Rattle.kx_pages.proofs.page_set.have_one_form.Goals as goal

pub returns : goal.returns
returns c = λ s. same_spans 0 0 c.args.a.now c.args.b.now c.spans.ensures.apart c.spans-2.ensures.apart s
