use Rattle.std.proofs.Common.{◌≡◌, ◌≤◌, ◌<◌, ◌+◌, ◌/◌, [], ◌∷◌, ◌++◌, Some, ◌∙◌, sym, subst, ap, arith, take}
use Rattle.kx_pages.specs.Lists.{Has}
use Rattle.kx_pages.specs.Spans.{Run}
use Rattle.segments.specs.Values.{is_destination, page_count}
use Rattle.kimage_list.specs.Load.{Move}
use Rattle.kimage_list.specs.inner.Load.{pages_of}
use Rattle.segments.proofs.Spans.{segment_with_span}
use Rattle.load_states.specs.Loads.{entries_of}
use Rattle.load_states.specs.inner.Fillings.{Fills}
use Rattle.load_states.proofs.FillSteps.{some_left, started_few, so_far, so_far-goes, so_far-end, is_page, not_yet}
use Rattle.load_states.proofs.Going.{Goes, goes_begun, goes_more}
use Rattle.load_states.proofs.Holding.{hold_same_too}
use Rattle.load_states.proofs.filling.fill_segment.Goals as goal
use Rattle.kx_pages.proofs.Lists.{Each-slice_get}
use Rattle.segments.specs.inner.Shape.{IsPlaced}

pub from_number-requires : goal.from_number-requires
from_number-requires c =
    let w = segment_with_span c.args.segments.now c.args.i c.span-run.result c.span-run.ensures in
    let k = Each-slice_get IsPlaced c.args.segments.now c.args.i w.0 c.requires.good.placed w.1 in
    omega (arith, k.below, c.first-first.ensures.value, ap (λ (r : Run). r.first) w.2)

pub add_destination-requires : goal.add_destination-requires
add_destination-requires c =
    let r = c.requires.ready in
    let ss = c.args.segments.now in
    some_left r.0 r.1 r.2 ss (entries_of (take c.args.i ss)) c.args.writer.now r.3 (started_few ss c.args.i c.requires.inside)

pub loop-number-init : goal.loop-number-init
loop-number-init c =
    let r = c.requires.ready in
    let ss = c.args.segments.now in (
      omega arith,
      omega (arith, c.first-first.ensures.value, c.count-count.ensures.value, c.first-first.ensures.value),
      subst (λ x. Goes ss c.args.i x x c.args.writer.now c.add_destination.new.self) c.from_number.ensures (goes_begun ss c.args.i c.from_number.result c.args.writer.now c.add_destination.new.self r.0 r.1 r.2 r.3 c.add_destination.ensures.stands),
      c.add_destination.ensures.pages,
      c.add_destination.ensures.held,
    )

pub from_number-requires-in-loop-number : goal.from_number-requires-in-loop-number
from_number-requires-in-loop-number c = omega (arith, c.count-count.ensures.valid, c.count-count.ensures.value, c.first-first.ensures.value, c.loop-number-test.true)

pub fill_page-requires-clause-wanted : goal.fill_page-requires-clause-wanted
fill_page-requires-clause-wanted c =
    let w = segment_with_span c.args.segments.now c.args.i c.span-run.result c.span-run.ensures in
    let low : w.0.mem / 4096 ≤ c.loop-number.number = omega (arith, c.loop-number.invariant.0, c.first-first.ensures.value, ap (λ (r : Run). r.first) w.2) in
    let high : c.loop-number.number < w.0.mem / 4096 + page_count w.0 = omega (arith, c.loop-number-test.true, c.count-count.ensures.value, c.first-first.ensures.value, ap (λ (r : Run). r.first) w.2, ap (λ (r : Run). r.count) w.2) in
    ap (is_destination c.args.segments.now) c.from_number-in-loop-number.ensures ∙ is_page c.args.segments.now c.args.i w.0 w.1 c.requires.good c.loop-number.number low high

pub fill_page-requires-clause-ready : goal.fill_page-requires-clause-ready
fill_page-requires-clause-ready c =
    let ss = c.args.segments.now in
    let w = segment_with_span ss c.args.i c.span-run.result c.span-run.ensures in
    let g = c.loop-number.invariant.2 in
    let n = c.loop-number.number in
    let same = c.from_number-in-loop-number.ensures in
    let first = c.first-first.result in
    let first_is : c.first-first.result ≡ w.0.mem / 4096 = c.first-first.ensures.value ∙ sym (ap (λ (r : Run). r.first) w.2) in
    let low : w.0.mem / 4096 ≤ c.loop-number.number = omega (arith, c.loop-number.invariant.0, first_is) in
    let high : c.loop-number.number < w.0.mem / 4096 + page_count w.0 = omega (arith, c.loop-number-test.true, c.count-count.ensures.value, c.first-first.ensures.value, ap (λ (r : Run). r.first) w.2, ap (λ (r : Run). r.count) w.2) in (
      g.memory,
      g.pool,
      g.wish,
      so_far ss c.args.i first n,
      g.stands,
      so_far-goes ss c.args.i first n c.loop-number.invariant.0 ∙ ap (λ x. Some x) (sym same),
      λ h. not_yet ss c.args.i w.0 w.1 c.requires.good n low high (subst (λ f. Has n (pages_of (so_far ss c.args.i f n))) first_is (subst (λ x. Has x (pages_of (so_far ss c.args.i first n))) same h)),
    )

pub loop-number-preserved : goal.loop-number-preserved
loop-number-preserved c = (
  omega (arith, c.loop-number.invariant.0),
  omega (arith, c.loop-number-test.true),
  goes_more c.args.segments.now c.args.i c.first-first.result c.loop-number.number c.args.writer.now c.loop-number.writer c.fill_page.new.writer c.loop-number.invariant.0 c.loop-number.invariant.2
      (λ M pool wish es g e. subst (λ x. Fills M pool wish c.args.segments.now (es ++ Move x ∷ []) c.fill_page.new.writer) c.from_number-in-loop-number.ensures (c.fill_page.ensures.filled M pool wish es g (e ∙ ap (λ x. Some x) (sym c.from_number-in-loop-number.ensures)))),
  c.fill_page.ensures.pages ∙ c.loop-number.invariant.3,
  hold_same_too c.args.writer.now.memory c.loop-number.writer.memory c.fill_page.new.writer.memory c.fill_page.ensures.held c.loop-number.invariant.4,
)

pub returns-clause-filled : goal.returns-clause-filled
returns-clause-filled c = λ M pool wish b.
    let ss = c.args.segments.now in
    let w = segment_with_span ss c.args.i c.span-run.result c.span-run.ensures in
    let first_is : c.first-first.result ≡ w.0.mem / 4096 = c.first-first.ensures.value ∙ sym (ap (λ (r : Run). r.first) w.2) in
    let all : c.loop-number.number ≡ w.0.mem / 4096 + page_count w.0 =
    omega (arith, c.loop-number.invariant.1, c.loop-number-test.false, c.count-count.ensures.value, c.first-first.ensures.value, ap (λ (r : Run). r.first) w.2, ap (λ (r : Run). r.count) w.2) in
    subst (λ es. Fills M pool wish ss es c.loop-number.writer)
    (ap (λ f. so_far ss c.args.i f c.loop-number.number) first_is ∙ ap (so_far ss c.args.i (w.0.mem / 4096)) all ∙ so_far-end ss c.args.i w.0 w.1)
    (c.loop-number.invariant.2.each M pool wish b)
