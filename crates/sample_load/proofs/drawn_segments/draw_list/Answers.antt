use Rattle.std.proofs.Common.{◌≡◌, ◌∙◌, ◌+◌, ◌-◌, ◌++◌, suc, ap, sym, arith}
use Rattle.std.proofs.lemmas.List.{append-nil}
use Rattle.sample_load.specs.DrawnSegments.{segments_from}
use Rattle.sample_load.proofs.Rising.{drawn_more, segments_end}
use Rattle.sample_load.proofs.drawn_segments.draw_list.Goals as goal

pub loop-i-preserved : goal.loop-i-preserved
loop-i-preserved c = record {
  near = omega (arith, c.loop-i.invariant.near, c.draw_shape-shape.ensures.gap, c.draw_shape-shape.ensures.count);
  drawn =
      let i = c.loop-i.i in
      let left : 16 - i ≡ suc (16 - (i + 1)) = omega arith in
      ap (λ ss. ss ++ segments_from (16 - (i + 1)) (i + 1) c.draw_shape-shape.new.generator.state (c.loop-i.next + (c.draw_shape-shape.result.gap + c.draw_shape-shape.result.count))) c.in_ok-push.ensures.items
      ∙ drawn_more c.loop-i.list.items (16 - (i + 1)) (16 - i) i c.loop-i.generator.state c.loop-i.next _ c.draw_shape-shape.result c.in_ok-segment_of.field-0 left c.draw_shape-shape.ensures.state c.draw_shape-shape.ensures.value c.in_ok-segment_of.ensures
      ∙ c.loop-i.invariant.drawn;
}

pub returns : goal.returns
returns c =
    let i = c.loop-i.i in
    let none : 16 - i ≡ 0 = omega arith in
    sym (append-nil c.loop-i.list.items) ∙ ap (λ ss. c.loop-i.list.items ++ ss) (sym (segments_end (16 - i) i c.loop-i.generator.state c.loop-i.next none)) ∙ c.loop-i.invariant.drawn
