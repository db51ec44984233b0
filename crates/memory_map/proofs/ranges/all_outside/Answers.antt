use Rattle.std.proofs.Common.{arith, sym, ◌∙◌}
use Rattle.memory_map.proofs.Parts.{outside-none, outside_more}
use Rattle.memory_map.proofs.ranges.all_outside.Goals as goal

pub loop-row-init : goal.loop-row-init
loop-row-init c = record {
  below = rw c.new-out.ensures.items tt;
  items = λ all same. c.new-out.ensures.items ∙ sym (outside-none all);
}

pub loop-row-preserved : goal.loop-row-preserved
loop-row-preserved c = record {
  below = c.in_ok-push_outside.ensures.below;
  items = λ all same. outside_more all c.args.rows.now c.loop-row.row-index _ c.loop-row.out.items _ (omega arith) (c.in_ok-push_outside.ensures.items all same) (c.loop-row.invariant.items all same);
}
