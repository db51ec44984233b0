use Rattle.std.proofs.Common.{sym, ◌∙◌, ap, ◌&&◌, not}
use Rattle.kx_pages.specs.Spans.{in_spans}
use Rattle.kx_pages.proofs.Sets.{apart_as}
use Rattle.kx_pages.proofs.Gathered.{in_difference}
use Rattle.kx_pages.proofs.page_set.PageSet.difference.Goals as goal

pub returns : goal.returns
returns c = λ q.
    in_difference c.deref.result.now c.deref-2.result.now c.in_ok-out.out.items c.deref-3.result.now c.in_ok-spans.spans.items q
    (apart_as _ _ (sym c.deref.ensures.value) c.self.invariant)
    (c.in_ok-out.ensures.pages q)
    (ap (λ xs. in_spans xs q) (c.deref-3.ensures.value ∙ c.out.view_is) ∙ c.in_ok-out-2.ensures q ∙ ap (λ xs. in_spans xs q) c.in_ok-extend_from_slice.ensures.items)
    (c.in_ok-spans.ensures.pages q)
    ∙ ap (λ xs. in_spans xs q && not (in_spans c.deref-2.result.now q)) (c.deref.ensures.value ∙ c.self.view_is)
    ∙ ap (λ ys. in_spans c.args.self.now q && not (in_spans ys q)) (c.deref-2.ensures.value ∙ c.other.view_is)
