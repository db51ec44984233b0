use Rattle.std.proofs.Common.{◌≡◌, ℕ, ◌+◌, ◌<◌, get_or, length, arith, ap, sym, ◌∙◌, subst}
use Rattle.std.specs.List.{slice_index}
use Rattle.std.proofs.lemmas.List.{get_or_read}
use Rattle.page_pool.specs.Pages.{usable_of}
use Rattle.page_pool.proofs.Queueing.{left_are, place_at, page_at}
use Rattle.page_pool.proofs.Pool.page.Goals as goal

pub overflow_add-self-inside : goal.overflow_add-self-inside
overflow_add-self-inside c =
    let i = c.self.inside in
    let few = c.self.invariant.few in
    let h = c.self.invariant.queued in
    omega (arith, c.requires, few, h.within, left_are i.pages.items i.queue.items i.is_drawn.items i.next i.end i.limit c.self.invariant.once h, ap (λ v. length (usable_of v)) c.self.view_is)

pub index-requires : goal.index-requires
index-requires c =
    let i = c.self.inside in
    let h = c.self.invariant.queued in
    omega (arith, c.requires, h.within, h.room, left_are i.pages.items i.queue.items i.is_drawn.items i.next i.end i.limit c.self.invariant.once h, ap (λ v. length (usable_of v)) c.self.view_is)

pub index-requires-2 : goal.index-requires-2
index-requires-2 c =
    let i = c.self.inside in
    let h = c.self.invariant.queued in
    let once = c.self.invariant.once in
    let inside = subst (λ v. c.args.i < length (usable_of v)) (sym c.self.view_is) c.requires in
    let place = get_or_read i.queue.items (i.next + c.args.i) c.index.result.now (omega (arith, inside, h.within, h.room, left_are i.pages.items i.queue.items i.is_drawn.items i.next i.end i.limit once h)) c.index.ensures 0 in
    omega (arith, place, place_at i.pages.items i.queue.items i.is_drawn.items i.next i.end i.limit once h c.args.i inside)

pub returns : goal.returns
returns c =
    let i = c.self.inside in
    let h = c.self.invariant.queued in
    let once = c.self.invariant.once in
    let inside = subst (λ v. c.args.i < length (usable_of v)) (sym c.self.view_is) c.requires in
    let place = get_or_read i.queue.items (i.next + c.args.i) c.index.result.now (omega (arith, inside, h.within, h.room, left_are i.pages.items i.queue.items i.is_drawn.items i.next i.end i.limit once h)) c.index.ensures 0 in
    let page : ℕ = c.index-2.result.now in
    let read : page ≡ get_or i.pages.items c.index.result.now 0 = get_or_read i.pages.items c.index.result.now page (omega (arith, place, place_at i.pages.items i.queue.items i.is_drawn.items i.next i.end i.limit once h c.args.i inside)) c.index-2.ensures 0 in
    subst (λ v. page ≡ slice_index (usable_of v) c.args.i) c.self.view_is (read ∙ ap (λ p. get_or i.pages.items p 0) place ∙ sym (page_at i.pages.items i.queue.items i.is_drawn.items i.next i.end i.limit once h c.args.i inside))
