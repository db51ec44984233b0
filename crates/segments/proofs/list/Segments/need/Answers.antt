use Rattle.std.proofs.Common.{arith}
use Rattle.segments.proofs.Laws.{AreSegments-from_IsBare}
use Rattle.segments.proofs.list.Segments.need.Goals as goal

pub pages_needed-requires-clause-segments : goal.pages_needed-requires-clause-segments
pages_needed-requires-clause-segments c =
    let s = AreSegments-from_IsBare c.args.self.now c.count.ensures.valid in
    omega (arith, s.few, c.count.ensures.value)
