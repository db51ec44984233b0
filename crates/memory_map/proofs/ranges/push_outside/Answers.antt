use Rattle.std.proofs.Common.{ap, sym, ◌∙◌, ◌++◌, ◌+◌, drop}
use Rattle.memory_map.specs.Rows.{row_end}
use Rattle.memory_map.specs.inner.Walk.{walk}
use Rattle.memory_map.proofs.Parts.{walk_turn, walk_end, walk_is}
use Rattle.memory_map.proofs.ranges.push_outside.Goals as goal

pub loop-area-init : goal.loop-area-init
loop-area-init c = record {
  below = c.requires.out;
  same = ap (λ y. c.args.out.now.items ++ y) (sym (c.first_near-i.ensures (row_end c.args.row) c.args.row.kind));
}

pub loop-area-preserved : goal.loop-area-preserved
loop-area-preserved c = record {
  below = c.in_ok-push_part.ensures.below;
  same = ap (λ x. c.push_part.new.out.items ++ walk x (row_end c.args.row) c.args.row.kind (drop (c.loop-area.i + 1) c.args.areas.now)) c.max-at.ensures
      ∙ walk_turn c.loop-area.out.items c.push_part.new.out.items _ c.loop-area.at (row_end c.args.row) c.args.row.kind c.in-Some.area (drop c.loop-area.i c.args.areas.now) (drop (c.loop-area.i + 1) c.args.areas.now) c.in-Some.ensures.next c.in-Some.ensures.within.1 c.in_ok-push_part.ensures.items c.loop-area.invariant.same;
}

pub returns-clause-items : goal.returns-clause-items
returns-clause-items c = λ all same.
    walk_end c.loop-area.out.items _ _ c.loop-area.at (row_end c.args.row) c.args.row.kind _ (c.in_default.ensures.none c.loop-area.at c.args.row.kind) c.in_ok-push_part-2.ensures.items c.loop-area.invariant.same
    ∙ ap (λ y. c.args.out.now.items ++ y) (walk_is all c.args.areas.now c.args.row c.requires.areas c.requires.some.some c.requires.row.end same)
