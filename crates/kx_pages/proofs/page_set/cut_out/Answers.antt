use Rattle.std.proofs.Common.{arith}
use Rattle.kx_pages.proofs.Sets.{cut_step, without_end}
use Rattle.kx_pages.proofs.page_set.cut_out.Goals as goal

pub loop-s-preserved : goal.loop-s-preserved
loop-s-preserved c =
    cut_step c.loop-s.made.items _ _ _ c.args.spans.now c.loop-s.s-index c.s-item.result c.args.span _ _ (omega arith) c.s-item.is c.in_ok-push_some.ensures c.in_ok-push_some-2.ensures (cc) (cc) c.loop-s.invariant

pub returns : goal.returns
returns c = without_end c.loop-s.made.items c.args.spans.now c.loop-s.s-index c.args.span _ (omega arith) c.loop-s.invariant
