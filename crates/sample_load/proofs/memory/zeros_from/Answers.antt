use Rattle.std.proofs.Common.{◌∙◌, ap, subst, sym}
use Rattle.kx_pages.specs.Lists.{Has}
use Rattle.kx_pages.proofs.Lists.{Each-from_All, Each-at, range-Has}
use Rattle.page_memory.specs.Contents.{at}
use Rattle.page_memory.specs.inner.Contents.{IsHeld}
use Rattle.sample_load.proofs.Filled.{empty_zeros}
use Rattle.sample_load.proofs.memory.zeros_from.Goals as goal

pub returns-clause-held : goal.returns-clause-held
returns-clause-held c = λ q low high.
    let pages = c.deref.ensures.value ∙ c.in_ok-pages.ensures in
    let m = c.hold_all.new.self in
    Each-at (λ p. IsHeld m p) _ q (Each-from_All (λ p. IsHeld m p) _ c.in_ok-hold_all.ensures.held) (subst (Has q) (sym pages) (range-Has c.args.count c.args.first q low high))

pub returns-clause-zeros : goal.returns-clause-zeros
returns-clause-zeros c = λ q. c.in_ok-hold_all.ensures.same q ∙ ap (λ m. at m q) c.empty-memory.ensures ∙ empty_zeros q
