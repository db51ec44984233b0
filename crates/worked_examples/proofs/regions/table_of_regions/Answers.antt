-- By computing.
use Rattle.std.specs.Prelude.{refl}
use Rattle.kx_fields.specs.Fields.{zeros}
use Rattle.purgatory_link.specs.Regions.{region_table}
use Rattle.worked_examples.proofs.regions.table_of_regions.Goals as goal

pub returns-clause-bytes : goal.returns-clause-bytes
unfolding region_table zeros
returns-clause-bytes c = refl

pub returns-clause-length : goal.returns-clause-length
unfolding region_table zeros
returns-clause-length c = refl
