use Rattle.std.proofs.Common.{ℕ, [], ◌∷◌, ◌++◌, take, ap, sym, ◌∙◌}
use Rattle.std.proofs.lemmas.List.{take_more}
use Rattle.kx_pages.specs.Lists.{has}
use Rattle.list_checker.proofs.Sets.{insert_adds}
use Rattle.image_slots.proofs.drawn.set_of.Goals as goal

pub loop-page-preserved : goal.loop-page-preserved
loop-page-preserved c = λ q.
    let list = c.args.list.now in
    let i = c.loop-page.page-index in
    let more = take_more list i c.page-item.result c.loop-page-test.true in
    insert_adds c.loop-page.set c.insert.new.self c.page-item.result (take i list) c.in_ok-insert.ensures.updates c.loop-page.invariant q
    ∙ ap (λ (x : ℕ). has q (take i list ++ x ∷ [])) c.page-item.is ∙ ap (has q) (sym more)
