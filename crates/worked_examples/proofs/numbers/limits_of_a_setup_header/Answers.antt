-- By computing.
use Rattle.std.specs.Prelude.{refl}
use Rattle.kx_fields.specs.Fields.{field, with_field, zeros}
use Rattle.bzimage.specs.Kernel.{header_fault}
use Rattle.std.specs.Int.RustNames.{count_ones}
use Rattle.worked_examples.proofs.numbers.limits_of_a_setup_header.Goals as goal

pub returns-clause-no_sectors : goal.returns-clause-no_sectors
unfolding count_ones field header_fault with_field zeros
returns-clause-no_sectors c = refl

pub returns-clause-one_sector : goal.returns-clause-one_sector
unfolding count_ones field header_fault with_field zeros
returns-clause-one_sector c = refl

pub returns-clause-oldest : goal.returns-clause-oldest
unfolding count_ones field header_fault with_field zeros
returns-clause-oldest c = refl

pub returns-clause-ends : goal.returns-clause-ends
unfolding count_ones field header_fault with_field zeros
returns-clause-ends c = refl

pub returns-clause-alignments : goal.returns-clause-alignments
unfolding count_ones field header_fault with_field zeros
returns-clause-alignments c = refl
