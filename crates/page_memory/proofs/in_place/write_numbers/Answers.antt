use Rattle.std.proofs.Common.{arith}
use Rattle.page_memory.proofs.InPlace.{number_in_slot, numbers_more}
use Rattle.page_memory.proofs.in_place.write_numbers.Goals as goal

pub loop-p-preserved : goal.loop-p-preserved
loop-p-preserved c =
    let start = c.args.frames.now in
    let xs = c.loop-p.frames in
    let at = c.loop-p.at in
    let i = c.loop-p.p-index in
    let new = c.put_word.new.frame in
    let one = number_in_slot start xs new at i c.number.result c.loop-p.invariant.place (omega arith) c.put_word.ensures c.loop-p.invariant.rest in
    record {
      place = omega arith;
      text = numbers_more start xs new _ c.args.pages.now c.loop-p-item.result at i c.number.result c.loop-p-test.true c.loop-p-item.is c.number.ensures.value one.0 c.loop-p.invariant.text;
      rest = one.1;
    }
