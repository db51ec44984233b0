use Rattle.kexec_plan.proofs.Holes.{found_is_hole}
use Rattle.kexec_plan.proofs.promise.places_are_holes.Goals as goal

pub returns : goal.returns
returns c = found_is_hole
