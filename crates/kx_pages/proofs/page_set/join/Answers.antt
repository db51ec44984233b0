use Rattle.std.proofs.Common.{arith, ap, ◌∙◌}
use Rattle.kx_pages.proofs.Sets.{join_end_some, join_end_none}
use Rattle.kx_pages.proofs.page_set.join.Goals as goal
use Rattle.kx_pages.proofs.page_set.join.Goals.{in-Some+in_ok-push, in_default}

pub returns : goal.returns
returns c =
    elim c.match-rest.branch [
      | in-Some+in_ok-push w ↦ ap (λ v. v.items) w.made-is ∙ join_end_some c.loop-s.made.items _ c.args.spans.now c.loop-s.s-index c.loop-s.rest w.in-Some.r _ (omega arith) w.in-Some.is w.in_ok-push.ensures.items c.loop-s.invariant
      | in_default w ↦ ap (λ v. v.items) w.made-is ∙ join_end_none c.loop-s.made.items c.args.spans.now c.loop-s.s-index c.loop-s.rest _ (omega arith) w.in_default.is c.loop-s.invariant
    ]
