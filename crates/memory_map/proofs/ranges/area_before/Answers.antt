use Rattle.std.proofs.Common.{arith}
use Rattle.memory_map.proofs.Parts.{walk_stops, part_at}
use Rattle.memory_map.proofs.ranges.area_before.Goals as goal

pub returns-then-area-end-clause-none : goal.returns-then-area-end-clause-none
returns-then-area-end-clause-none c = λ at k. walk_stops at c.args.end k c.args.i c.args.areas.now _ (omega arith) c.if-area-end.true

pub returns-clause-within : goal.returns-clause-within
returns-clause-within c = (omega arith, omega arith, part_at 0 0 c.args.areas.now c.args.i _ c.requires (omega arith))
