use Rattle.std.proofs.Common.{◌+◌, ◌++◌, ◌∙◌, arith, ap, sym, subst, length, take}
use Rattle.kx_pages.specs.Lists.{Distinct}
use Rattle.page_pool.specs.Pages.{usable_of}
use Rattle.page_pool.specs.inner.Queue.{pages_at}
use Rattle.page_pool.proofs.Left.{parts_distinct}
use Rattle.page_pool.proofs.Queueing.{left_are, parts_are}
use Rattle.page_pool.proofs.Pool.left.Goals as goal

pub returns-clause-value : goal.returns-clause-value
returns-clause-value c =
    let i = c.self.inside in
    sym (left_are i.pages.items i.queue.items i.is_drawn.items i.next i.end i.limit c.self.invariant.once c.self.invariant.queued) ∙ ap (λ v. length (usable_of v)) c.self.view_is

pub returns-clause-once : goal.returns-clause-once
returns-clause-once c =
    let i = c.self.inside in
    subst (λ v. Distinct (v.drawn ++ usable_of v)) c.self.view_is (parts_distinct i.limit i.pages.items (pages_at i.pages.items (take i.next i.queue.items)) c.self.invariant.once c.self.invariant.queued.once)

pub returns-clause-few : goal.returns-clause-few
returns-clause-few c =
    let i = c.self.inside in
    let few = c.self.invariant.few in
    let parts = parts_are i.pages.items i.queue.items i.is_drawn.items i.next i.end i.limit c.self.invariant.once c.self.invariant.queued in
    omega (arith, few, parts, c.self.invariant.queued.within, ap (λ v. length v.drawn + length (usable_of v)) c.self.view_is)
