use Rattle.std.proofs.Common.{◌∙◌, sym}
use Rattle.sample_load.proofs.Strides.{page_more, pages_none}
use Rattle.sample_load.proofs.pool.pool_pages.Goals as goal

pub loop-k-init : goal.loop-k-init
loop-k-init c = c.in_ok-reserve_exact.ensures.items ∙ c.new-pages.ensures.items ∙ sym pages_none

pub loop-k-preserved : goal.loop-k-preserved
loop-k-preserved c = page_more c.loop-k.pages.items c.push.new.self.items c.loop-k.k c.pool_page.result c.loop-k.invariant c.pool_page.ensures c.in_ok-push.ensures.items
