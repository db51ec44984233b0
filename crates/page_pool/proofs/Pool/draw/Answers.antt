use Rattle.std.proofs.Common.{◌≡◌, ℕ, ◌+◌, List, ◌∷◌, ◌++◌, [], take, get_or, true, arith, ap, sym, subst, ◌∙◌, refl}
use Rattle.std.specs.Prelude.{set}
use Rattle.std.proofs.lemmas.List.{get_or_read}
use Rattle.page_pool.specs.Pages.{Pages, usable_of, usable_among}
use Rattle.page_pool.specs.inner.Queue.{pages_at}
use Rattle.page_pool.specs.inner.Marks.{IsPool, marks_of}
use Rattle.page_pool.proofs.Steps.{drawn_pool}
use Rattle.page_pool.proofs.Queueing.{place_inside, gone_more, usable_split, none_left}
use Rattle.page_pool.proofs.Pool.draw.Goals as goal

pub invariant_of-self : goal.invariant_of-self
invariant_of-self c =
    let i = c.self.inside in
    let place : c.index.result.now ≡ get_or i.queue.items i.next 0 = get_or_read i.queue.items i.next c.index.result.now (omega (arith, c.if-self.true, c.self.invariant.queued.within, c.self.invariant.queued.room)) c.index.ensures 0 in
    subst (λ p. IsPool i.pages.items i.queue.items (set i.is_drawn.items p true) (i.next + 1) i.end i.limit i.marks) (sym place) (drawn_pool i.pages.items i.queue.items i.is_drawn.items i.next i.end i.limit i.marks c.self.invariant c.if-self.true)

pub returns-then-self-clause-some : goal.returns-then-self-clause-some
returns-then-self-clause-some c =
    let i = c.self.inside in
    let xs : List ℕ = i.pages.items in
    let q : ℕ = c.index-then-self.result.now in
    let h = c.self.invariant.queued in
    let place : c.index.result.now ≡ get_or i.queue.items i.next 0 = get_or_read i.queue.items i.next c.index.result.now (omega (arith, c.if-self.true, h.within, h.room)) c.index.ensures 0 in
    let page : q ≡ get_or xs c.index.result.now 0 = get_or_read xs c.index.result.now q (omega (arith, place, place_inside xs i.queue.items i.is_drawn.items i.next i.end i.limit c.self.invariant.once h c.if-self.true)) c.index-then-self.ensures 0 in
    let is : q ≡ get_or xs (get_or i.queue.items i.next 0) 0 = page ∙ ap (λ p. get_or xs p 0) place in
    let gone : List ℕ = pages_at xs (take i.next i.queue.items) in
    let now : List ℕ → Pages = λ ys. record { made = xs; drawn = ys; limit = i.limit; marks = marks_of i.marks } in
    let push : Pages → Pages = λ v. record v { drawn = v.drawn ++ q ∷ [] } in (
      sym (ap usable_of c.self.view_is) ∙ usable_split xs i.queue.items i.is_drawn.items i.next i.end i.limit c.self.invariant.once h c.if-self.true ∙ ap (λ p. p ∷ usable_among i.limit xs (pages_at xs (take (i.next + 1) i.queue.items))) (sym is),
      ap now (gone_more xs i.queue.items i.is_drawn.items i.next i.end i.limit c.self.invariant.once h c.if-self.true ∙ ap (λ p. gone ++ p ∷ []) (sym is)) ∙ ap push c.self.view_is,
    )

pub returns-else-self-clause-none : goal.returns-else-self-clause-none
returns-else-self-clause-none c =
    let i = c.self.inside in
    (sym (ap usable_of c.self.view_is) ∙ none_left i.pages.items i.queue.items i.is_drawn.items i.next i.end i.limit c.self.invariant.once c.self.invariant.queued (omega arith), refl)
