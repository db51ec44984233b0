use Rattle.std.proofs.Common.{◌||◌, ap, sym, ◌∙◌, arith}
use Rattle.kx_pages.specs.Spans.{in_spans, in_span}
use Rattle.kx_pages.proofs.Sets.{has_joined, apart_as, apart_joined}
use Rattle.kx_pages.proofs.page_set.PageSet.add.Goals as goal

pub invariant_of-self : goal.invariant_of-self
invariant_of-self c =
    apart_as _ _ (sym c.in_ok-put_among.ensures.ok) (apart_joined 0 _ c.args.span c.self.invariant (omega arith) (omega arith) (omega arith))

pub returns-in_ok-put_among-clause-pages : goal.returns-in_ok-put_among-clause-pages
returns-in_ok-put_among-clause-pages c = λ q.
    ap (λ xs. in_spans xs q) c.in_ok-put_among.ensures.ok ∙ has_joined _ c.args.span q ∙ ap (λ xs. in_spans xs q || in_span c.args.span q) c.self.view_is
