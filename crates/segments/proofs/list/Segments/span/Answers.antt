use Rattle.std.proofs.Common.{◌≡◌, false, sym, ap, ◌∙◌, subst, Some}
use Rattle.std.specs.Option.{option_map}
use Rattle.segments.specs.inner.Values.{span_of}
use Rattle.segments.specs.Rules.{is_bad_address}
use Rattle.segments.specs.inner.Rules.{IsBare}
use Rattle.segments.proofs.Laws.{addresses-from_IsBare}
use Rattle.segments.proofs.Steps.{got}
use Rattle.segments.proofs.list.Segments.span.Goals as goal
use Rattle.kx_pages.proofs.Lists.{Each-slice_get}

pub span-requires : goal.span-requires
span-requires c =
    let now = c.args.self.now in
    let bare = subst IsBare c.self.view_is c.self.invariant.bare in
    Each-slice_get (λ s. is_bad_address s ≡ false) now c.args.i c.index.result.now (addresses-from_IsBare now bare) (got c.self.inside.list.items now c.args.i c.index.result.now c.self.view_is c.requires c.index.ensures)

pub returns : goal.returns
returns c =
    ap (option_map span_of) (got c.self.inside.list.items c.args.self.now c.args.i c.index.result.now c.self.view_is c.requires c.index.ensures) ∙ ap Some (sym c.span.ensures.value)
