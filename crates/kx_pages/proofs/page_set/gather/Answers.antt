use Rattle.std.proofs.Common.{arith}
use Rattle.kx_pages.proofs.Gathered.{gather_step, gather_end}
use Rattle.kx_pages.proofs.page_set.gather.Goals as goal

pub loop-s-preserved : goal.loop-s-preserved
loop-s-preserved c = λ q. gather_step c.args.spans.now c.loop-s.s-index c.s-item.result q _ _ (omega arith) c.s-item.is (c.in_ok-last.ensures q) (c.loop-s.invariant q)

pub returns : goal.returns
returns c = λ q. gather_end c.args.spans.now c.loop-s.s-index q _ _ (omega arith) (c.in_ok-add.ensures.pages q) (c.loop-s.invariant q)
