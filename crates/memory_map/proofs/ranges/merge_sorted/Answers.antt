use Rattle.std.proofs.Common.{arith}
use Rattle.memory_map.proofs.Parts.{starts_before, covers_more}
use Rattle.memory_map.proofs.ranges.merge_sorted.Goals as goal

pub loop-area-preserved : goal.loop-area-preserved
loop-area-preserved c = record {
  parts = c.in_ok-push_area.ensures.parts;
  order = λ k d l m. c.in_ok-push_area.ensures.order _ (starts_before c.args.areas.now c.loop-area.area-index k _ d c.requires.order (omega (arith, l)) m);
  bytes = λ q. covers_more c.args.areas.now c.loop-area.area-index q _ _ _ (omega arith) (c.in_ok-push_area.ensures.bytes q) (c.loop-area.invariant.bytes q);
}
