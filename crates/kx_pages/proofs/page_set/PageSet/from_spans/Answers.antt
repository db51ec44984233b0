use Rattle.kx_pages.proofs.Gathered.{of_sorted}
use Rattle.kx_pages.proofs.page_set.PageSet.from_spans.Goals as goal

pub returns : goal.returns
returns c = of_sorted c.gather.result _ _ _ c.deref.ensures.value c.sort_unstable_by_key.ensures.permutation c.gather.ensures
