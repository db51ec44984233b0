-- By computing.
use Rattle.std.specs.Prelude.{refl}
use Rattle.multiboot_image.specs.Header.{unknown_bit}
use Rattle.worked_examples.proofs.multiboots.flags_of_a_header.Goals as goal

pub returns-clause-lowest : goal.returns-clause-lowest
unfolding unknown_bit
returns-clause-lowest c = refl

pub returns-clause-none : goal.returns-clause-none
unfolding unknown_bit
returns-clause-none c = refl
