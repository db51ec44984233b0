use Rattle.std.proofs.Common.{◌<◌, length, arith, ◌∙◌}
use Rattle.std.specs.Prelude.{slice_index}
use Rattle.std.proofs.lemmas.List.{length-set}
use Rattle.page_memory.proofs.InPlace.{owned_more, back_more}
use Rattle.page_memory.proofs.in_place.owners_of.Goals as goal

pub loop-j-preserved : goal.loop-j-preserved
loop-j-preserved c =
    let slots = c.args.slots.now in
    let owners = c.loop-j.owners.items in
    let j = c.loop-j.j in
    let before = c.loop-j.invariant in
    let inside : slice_index slots j < length owners = omega (arith, c.requires.inside j c.loop-j-test.true, before.long) in
    let same = length-set owners (slice_index slots j) j in
    record {
      long = same ∙ before.long;
      owned = λ a below. owned_more slots owners j a c.loop-j-test.true inside c.requires.apart before.owned below;
      back = λ i below few. back_more slots owners j i inside (before.back i (omega (arith, below, same))) few;
    }
