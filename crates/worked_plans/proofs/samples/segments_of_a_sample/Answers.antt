-- By computing.
use Rattle.std.proofs.Common.{refl}
use Rattle.sample_load.specs.DrawnSegments.{segments_from}
use Rattle.worked_plans.proofs.samples.segments_of_a_sample.Goals as goal

pub returns-clause-addresses : goal.returns-clause-addresses
unfolding segments_from
returns-clause-addresses c = refl

pub returns-clause-sizes : goal.returns-clause-sizes
unfolding segments_from
returns-clause-sizes c = refl
