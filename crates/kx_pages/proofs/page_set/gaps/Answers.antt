use Rattle.std.proofs.Common.{arith}
use Rattle.kx_pages.proofs.Gathered.{gaps_step, gaps_end, in_gaps, are_gaps_apart}
use Rattle.kx_pages.proofs.page_set.gaps.Goals as goal

pub loop-s-preserved : goal.loop-s-preserved
loop-s-preserved c =
    gaps_step c.loop-s.made.items _ _ c.args.spans.now c.loop-s.s-index c.loop-s.from _ c.s-item.result (omega arith) c.s-item.is (rw c.first.ensures.value at c.in_ok-push_some.ensures) c.end-from.ensures.value c.loop-s.invariant

pub returns-clause-pages : goal.returns-clause-pages
returns-clause-pages c = λ q.
    in_gaps c.args.spans.now _ q c.requires (gaps_end c.loop-s.made.items _ _ c.args.spans.now c.loop-s.s-index c.loop-s.from (omega arith) c.in_ok-push_some-2.ensures c.loop-s.invariant)

pub returns-clause-apart : goal.returns-clause-apart
returns-clause-apart c =
    are_gaps_apart c.args.spans.now _ c.requires (gaps_end c.loop-s.made.items _ _ c.args.spans.now c.loop-s.s-index c.loop-s.from (omega arith) c.in_ok-push_some-2.ensures c.loop-s.invariant)
