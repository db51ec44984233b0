use Rattle.std.proofs.Common.{ap, sym, ◌∙◌}
use Rattle.kx_pages.specs.inner.Edits.{reaching}
use Rattle.kx_pages.proofs.Reaching.{meets_by_reaching, found_meets}
use Rattle.kx_pages.proofs.search.any_meets.Goals as goal

pub returns-in-Some : goal.returns-in-Some
returns-in-Some c =
    c.meets.ensures
    ∙ sym (meets_by_reaching 0 c.args.spans.now c.args.span c.requires
    ∙ ap (λ n. found_meets (reaching c.args.spans.now n) c.args.span) (sym c.first.ensures.value)
    ∙ ap (λ o. found_meets o c.args.span) (sym c.first_reaching.ensures ∙ c.in-Some.is))

pub returns-in-None : goal.returns-in-None
returns-in-None c =
    sym (meets_by_reaching 0 c.args.spans.now c.args.span c.requires
    ∙ ap (λ n. found_meets (reaching c.args.spans.now n) c.args.span) (sym c.first.ensures.value)
    ∙ ap (λ o. found_meets o c.args.span) (sym c.first_reaching.ensures ∙ c.in-None.is))
