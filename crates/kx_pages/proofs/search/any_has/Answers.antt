use Rattle.std.proofs.Common.{ap, sym, ◌∙◌}
use Rattle.kx_pages.proofs.Reaching.{has_by_reaching, found_has}
use Rattle.kx_pages.proofs.search.any_has.Goals as goal

pub returns-in-Some : goal.returns-in-Some
returns-in-Some c =
    c.has.ensures ∙ sym (has_by_reaching 0 c.args.spans.now c.args.number c.requires ∙ ap (λ o. found_has o c.args.number) (sym c.first_reaching.ensures ∙ c.in-Some.is))

pub returns-in-None : goal.returns-in-None
returns-in-None c =
    sym (has_by_reaching 0 c.args.spans.now c.args.number c.requires ∙ ap (λ o. found_has o c.args.number) (sym c.first_reaching.ensures ∙ c.in-None.is))
