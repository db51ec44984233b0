-- By computing.
use Rattle.std.specs.Prelude.{refl}
use Rattle.purgatory_link.specs.RegionTest.{first_wild_region}
use Rattle.worked_examples.proofs.regions.limits_of_regions.Goals as goal

pub returns-clause-ends : goal.returns-clause-ends
unfolding first_wild_region
returns-clause-ends c = refl

pub returns-clause-total : goal.returns-clause-total
unfolding first_wild_region
returns-clause-total c = refl

pub returns-clause-first : goal.returns-clause-first
unfolding first_wild_region
returns-clause-first c = refl

pub returns-clause-behind_the_rows : goal.returns-clause-behind_the_rows
unfolding first_wild_region
returns-clause-behind_the_rows c = refl
