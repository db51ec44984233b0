use Rattle.std.proofs.Common.{ℕ, ◌∙◌, ap, arith, subst, take}
use Rattle.std.specs.Prelude.{◌⊎◌, ◌↔◌}
use Rattle.page_memory.specs.Contents.{at}
use Rattle.page_memory.specs.inner.Contents.{IsHeld}
use Rattle.page_pool.specs.Pages.{usable_of}
use Rattle.kx_pages.specs.Lists.{Has}
use Rattle.kimage_list.specs.inner.Held.{HoldSame}
use Rattle.kimage_list.specs.inner.Calls.{load_begun}
use Rattle.kimage_list.proofs.Beginning.{preparation_begins}
use Rattle.kimage_list.proofs.Held.{held_for}
use Rattle.kimage_list.proofs.writer.ListWriter.begin.Goals as goal
use Rattle.kx_pages.specs.Needs.{need_of}

pub open-requires : goal.open-requires
open-requires c =
    let a = c.args in
    let n = c.pages_needed-need.ensures ∙ ap (need_of c.args.wish c.args.segments) c.total.ensures.sum in
    let r = c.in-Ok.ensures.ready in (
      load_begun (at a.memory) (usable_of a.pool) a.wanted.now a.segments a.wish,
      preparation_begins a.memory a.pool a.wanted.now a.segments a.wish c.prepare.new.memory c.in-Ok.table c.pages_needed-need.result c.new.result n
          (omega (arith, c.if-left-need.false, c.left-left.ensures.value)) (λ q. c.in-Ok.ensures.same q) c.left-left.ensures.once c.requires.unfiled r.0 r.1 r.2 c.requires.some c.new.ensures,
    )

pub returns-in-Ok-clause-begun : goal.returns-in-Ok-clause-begun
returns-in-Ok-clause-begun c =
    let a = c.args in
    let n = c.pages_needed-need.ensures ∙ ap (need_of c.args.wish c.args.segments) c.total.ensures.sum in
    let r = c.in-Ok.ensures.ready in
    c.open.ensures.stands (load_begun (at a.memory) (usable_of a.pool) a.wanted.now a.segments a.wish) (preparation_begins a.memory a.pool a.wanted.now a.segments a.wish c.prepare.new.memory c.in-Ok.table c.pages_needed-need.result c.new.result n
    (omega (arith, c.if-left-need.false, c.left-left.ensures.value)) (λ q. c.in-Ok.ensures.same q) c.left-left.ensures.once c.requires.unfiled r.0 r.1 r.2 c.requires.some c.new.ensures)

pub returns-in-Ok-clause-held : goal.returns-in-Ok-clause-held
returns-in-Ok-clause-held c =
    let a = c.args in
    let r = c.in-Ok.ensures in
    let old = a.memory in
    let new = c.open.result.memory in
    let n = c.pages_needed-need.ensures ∙ ap (need_of c.args.wish c.args.segments) c.total.ensures.sum in
    let Held : ℕ → Type 0 = λ k. (q : ℕ) → IsHeld new q ↔ (IsHeld old q ⊎ Has q (take k (usable_of a.pool))) in
    subst Held n (held_for old c.prepare.new.memory new c.pages_needed-need.result (usable_of a.pool) r.ready.2 r.stay r.only
    (subst (λ l. HoldSame new l.memory) c.new.ensures c.open.ensures.held))
