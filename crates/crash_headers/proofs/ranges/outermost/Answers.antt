use Rattle.std.proofs.Common.{get_or, subst}
use Rattle.crash_headers.specs.inner.Ranges.{IsBehind, IsNotBehind}
use Rattle.crash_headers.proofs.Rows.{no_row}
use Rattle.crash_headers.proofs.Order.{outer_push, outer_skip}
use Rattle.crash_headers.proofs.ranges.outermost.Goals as goal
use Rattle.crash_headers.proofs.ranges.outermost.Goals.{then-ends_behind+in_ok-push, else-ends_behind}

pub loop-range-preserved : goal.loop-range-preserved
loop-range-preserved c =
    let sorted = c.args.sorted.now in
    let i = c.loop-range.range-index in
    let here = get_or sorted i no_row in
    elim c.if-ends_behind.branch [
      | then-ends_behind+in_ok-push w ↦
          let behind = subst (λ xs. IsBehind xs here) c.deref.ensures.value (c.ends_behind.ensures.behind w.if-ends_behind.true) in
          rw w.outer-is (outer_push sorted c.loop-range.outer.items _ i no_row c.requires c.loop-range-test.true w.in_ok-push.ensures.items behind c.loop-range.invariant)
      | else-ends_behind w ↦
          let not_behind = subst (λ xs. IsNotBehind xs here) c.deref.ensures.value (c.ends_behind.ensures.not_behind w.if-ends_behind.false) in
          rw w.outer-is (outer_skip sorted c.loop-range.outer.items i no_row c.loop-range-test.true not_behind c.loop-range.invariant)
    ]
