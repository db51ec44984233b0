use Rattle.std.proofs.Common.{◌≡◌, ◌∙◌, sym, subst, arith}
use Rattle.std.proofs.lemmas.List.{take_all}
use Rattle.kx_pages.specs.Lists.{Distinct}
use Rattle.page_pool.specs.Pages.{usable_of}
use Rattle.load_commands.proofs.Resident.{distinct_right}
use Rattle.load_commands.proofs.boot_resident.usable_pages.Goals as goal

pub returns-clause-once : goal.returns-clause-once
returns-clause-once c =
    let U = usable_of c.args.pool.now in
    let e : c.loop-i.pages.items ≡ U = c.loop-i.invariant ∙ take_all c.loop-i.i U (let a = c.loop-i-test.false in let b = c.left-count.ensures.value in omega (arith, a, b)) in
    subst Distinct (sym e) (distinct_right c.args.pool.now.drawn U c.left-count.ensures.once)
