use Rattle.std.proofs.Common.{◌≡◌, ◌+◌, ◌-◌, length, arith, subst}
use Rattle.page_pool.specs.Pages.{left_of, usable_of}
use Rattle.page_pool.proofs.Queueing.{unusable_are}
use Rattle.page_pool.proofs.Pool.unusable.Goals as goal

pub returns : goal.returns
returns c =
    let i = c.self.inside in
    let parts : (length i.pages.items - i.end) + length (usable_of c.args.self.now) ≡ length (left_of c.args.self.now) = subst (λ v. (length i.pages.items - i.end) + length (usable_of v) ≡ length (left_of v)) c.self.view_is (unusable_are i.pages.items i.queue.items i.is_drawn.items i.next i.end i.limit c.self.invariant.once c.self.invariant.queued) in
    omega (arith, c.len.ensures, parts)
