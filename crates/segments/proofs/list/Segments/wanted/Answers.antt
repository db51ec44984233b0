use Rattle.std.proofs.Common.{◌≡◌, ℕ, Option, List, Some, None, sym, ap, ◌∙◌, arith, length, ◌≤◌}
use Rattle.std.specs.Option.{option_map}
use Rattle.kx_pages.specs.Bytes.{page_of}
use Rattle.segments.specs.Values.{SegmentValue, want}
use Rattle.segments.specs.inner.Values.{wanted}
use Rattle.segments.proofs.Laws.{want-wanted}
use Rattle.segments.proofs.Steps.{want_here, drop_all}
use Rattle.segments.proofs.list.Segments.wanted.Goals as goal

wanted_is_want : (ss ts : List SegmentValue) (n p : ℕ) (o : Option (List ℕ)) → ss ≡ ts → n ≡ p → wanted ss n ≡ o → option_map page_of o ≡ want ts p
wanted_is_want ss ts n p o e f g =
    sym (ap (option_map page_of) g) ∙ ap (λ xs. option_map page_of (wanted xs n)) e ∙ ap (λ q. option_map page_of (wanted ts q)) f ∙ sym (want-wanted ts p)

pub returns-then-has-clause-filled : goal.returns-then-has-clause-filled
returns-then-has-clause-filled c =
    let items = c.deref-s-items.result.now in
    wanted_is_want items c.args.self.now c.number-number.result c.args.p (Some c.page_bytes.result.now) (c.deref-s-items.ensures.value ∙ c.self.view_is) c.number-number.ensures.value
    (sym c.loop-s.invariant ∙ want_here items c.loop-s.s-index c.s-item.result c.number-number.result c.loop-s-test.true c.s-item.is (sym c.has.ensures ∙ c.if-has.true) ∙ ap Some (sym c.page_bytes.ensures.value))

pub returns-clause-filled : goal.returns-clause-filled
returns-clause-filled c =
    let items = c.deref-s-items.result.now in
    let past : length items ≤ c.loop-s.s-index = omega arith in
    wanted_is_want items c.args.self.now c.number-number.result c.args.p None (c.deref-s-items.ensures.value ∙ c.self.view_is) c.number-number.ensures.value
    (sym c.loop-s.invariant ∙ ap (λ xs. wanted xs c.number-number.result) (drop_all items c.loop-s.s-index past))
