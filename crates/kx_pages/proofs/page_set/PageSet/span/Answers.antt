use Rattle.std.proofs.Common.{get_or, ap, ◌∙◌}
use Rattle.kx_pages.proofs.Sets.{apart_as}
use Rattle.kx_pages.proofs.Counted.{maximal_at}
use Rattle.kx_pages.proofs.page_set.PageSet.span.Goals as goal

pub returns-clause-whole : goal.returns-clause-whole
returns-clause-whole c =
    maximal_at 0 c.args.self.now c.args.i c.index.result.now (apart_as _ _ c.self.view_is c.self.invariant) c.requires (c.index.ensures ∙ ap (λ xs. get_or xs c.args.i c.index.result.now) c.self.view_is)
