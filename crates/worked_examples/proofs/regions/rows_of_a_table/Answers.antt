-- By computing.
use Rattle.std.specs.Prelude.{refl}
use Rattle.kx_fields.specs.Fields.{field}
use Rattle.page_memory.specs.Addresses.{bytes_in}
use Rattle.purgatory_link.specs.RegionTest.{regions, regions_in}
use Rattle.worked_examples.proofs.regions.rows_of_a_table.Goals as goal

pub returns-clause-first : goal.returns-clause-first
unfolding field bytes_in regions regions_in
returns-clause-first c = refl

pub returns-clause-second : goal.returns-clause-second
unfolding field bytes_in regions regions_in
returns-clause-second c = refl

pub returns-clause-last : goal.returns-clause-last
unfolding field bytes_in regions regions_in
returns-clause-last c = refl

pub returns-clause-rows : goal.returns-clause-rows
unfolding field bytes_in regions regions_in
returns-clause-rows c = refl

pub returns-clause-bytes : goal.returns-clause-bytes
unfolding field bytes_in regions regions_in
returns-clause-bytes c = refl
