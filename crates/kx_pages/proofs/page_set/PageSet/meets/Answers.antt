use Rattle.std.proofs.Common.{ap, ◌∙◌, sym}
use Rattle.kx_pages.proofs.Counted.{meet_to, meet_from, any_meets}
use Rattle.kx_pages.proofs.page_set.PageSet.meets.Goals as goal

pub returns : goal.returns
returns c =
    let e = c.any_meets.ensures ∙ ap (λ xs. any_meets xs c.args.span) (c.deref.ensures.value ∙ c.self.view_is) in
    (λ h. meet_to c.args.self.now c.args.span (sym e ∙ h), λ w. e ∙ meet_from c.args.self.now c.args.span w.0 w.1 w.2)
