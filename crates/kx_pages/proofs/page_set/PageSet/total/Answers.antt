use Rattle.std.proofs.Common.{◌+◌, ◌≤◌, ◌^◌, drop, ap, ◌∙◌, arith}
use Rattle.kx_pages.specs.Spans.{pages}
use Rattle.kx_pages.proofs.Sets.{apart_as}
use Rattle.kx_pages.proofs.Counted.{pages_within, pages_step, passing_pages, total_end}
use Rattle.kx_pages.proofs.page_set.PageSet.total.Goals as goal

pub overflow_add-total : goal.overflow_add-total
overflow_add-total c =
    let a = apart_as _ _ c.self.view_is c.self.invariant in
    let w : 0 + pages c.args.self.now ≤ 2 ^ 34 + 1 = pages_within 0 c.args.self.now a (omega arith) in
    let e = pages_step c.deref-s-items.result.now c.loop-s.s-index c.s-item.result c.loop-s.total (pages c.args.self.now) c.loop-s-test.true c.s-item.is c.loop-s.invariant in
    omega arith

pub loop-s-preserved : goal.loop-s-preserved
loop-s-preserved c =
    let e = pages_step c.deref-s-items.result.now c.loop-s.s-index c.s-item.result c.loop-s.total (pages c.args.self.now) c.loop-s-test.true c.s-item.is c.loop-s.invariant in
    ap (λ n. (c.loop-s.total + n) + pages (drop (c.loop-s.s-index + 1) c.deref-s-items.result.now)) c.count-total.ensures.value ∙ e

pub returns-clause-count : goal.returns-clause-count
returns-clause-count c = λ n h.
    total_end c.deref-s-items.result.now c.loop-s.s-index c.loop-s.total _ (omega arith) c.loop-s.invariant ∙ passing_pages 0 c.args.self.now n (apart_as _ _ c.self.view_is c.self.invariant) h
