-- Caller 8 meets the load of caller 7.
use Rattle.std.proofs.Common.{[], ◌∷◌, refl, arith}
use Rattle.image_slots.specs.States.{Written}
use Rattle.worked_plans.specs.Slots.{normal_image}
use Rattle.worked_plans.proofs.slots.calls_that_are_busy.Goals as goal

pub returns-clause-other_caller : goal.returns-clause-other_caller
returns-clause-other_caller c = record {
  gone = refl;
  load = record { caller = 7; stage = Written (normal_image (0x12 ∷ 0x13 ∷ [])) };
  under_way = refl;
  named = refl;
  own = 8;
  has = refl;
  other = λ e. omega (arith, e);
}
