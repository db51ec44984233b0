-- By computing.
use Rattle.std.specs.Prelude.{refl}
use Rattle.kx_fields.specs.Fields.{field}
use Rattle.multiboot_image.specs.Header.{find_header, header_of, header_place, unknown_bit}
use Rattle.worked_examples.proofs.multiboots.spoiled_headers.Goals as goal

pub returns-clause-sum : goal.returns-clause-sum
unfolding find_header header_place header_of unknown_bit field
returns-clause-sum c = refl

pub returns-clause-flag : goal.returns-clause-flag
unfolding find_header header_place header_of unknown_bit field
returns-clause-flag c = refl

pub returns-clause-cut : goal.returns-clause-cut
unfolding find_header header_place header_of unknown_bit field
returns-clause-cut c = refl

pub returns-clause-aligned : goal.returns-clause-aligned
unfolding find_header header_place header_of unknown_bit field
returns-clause-aligned c = refl

pub returns-clause-further : goal.returns-clause-further
unfolding find_header header_place header_of unknown_bit field
returns-clause-further c = refl
