use Rattle.std.proofs.Common.{◌≡◌, length, arith, ap, ◌∙◌}
use Rattle.page_memory.proofs.in_place.arrange.Goals as goal

pub loop-k-preserved : goal.loop-k-preserved
loop-k-preserved c =
    let same : length c.loop-k.slots ≡ length c.args.slots.now = omega arith in
    record {
      owned = c.settle.ensures.owned;
      holds = λ frame_of start i below few.
          c.settle.ensures.holds frame_of (λ i below few. c.loop-k.invariant.holds frame_of start i below (omega (arith, same, few))) i below (omega (arith, same, few));
    }

pub returns : goal.returns
returns c = λ frame_of start j below.
    let own = c.loop-k.invariant.owned.settled j (omega (arith, below)) in
    c.loop-k.invariant.holds frame_of start j (omega (arith, below)) (omega (arith, below, own)) ∙ ap frame_of own
