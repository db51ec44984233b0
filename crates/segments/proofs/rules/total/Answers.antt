use Rattle.std.proofs.Common.{arith}
use Rattle.segments.proofs.Steps.{count_more}
use Rattle.segments.proofs.rules.total.Goals as goal

pub loop-s-preserved : goal.loop-s-preserved
loop-s-preserved c =
    let m = count_more c.args.list.now c.loop-s.s-index c.s-item.result c.loop-s-test.true c.s-item.is in
    record { small = omega arith; sum = omega arith }
