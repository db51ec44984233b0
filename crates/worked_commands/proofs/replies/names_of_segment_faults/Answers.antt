-- By computing.
use Rattle.std.specs.Prelude.{refl}
use Rattle.std.specs.Fmt.{digits}
use Rattle.worked_commands.proofs.replies.names_of_segment_faults.Goals as goal

pub returns-clause-memory : goal.returns-clause-memory
unfolding digits
returns-clause-memory c = refl

pub returns-clause-none : goal.returns-clause-none
unfolding digits
returns-clause-none c = refl

pub returns-clause-many : goal.returns-clause-many
unfolding digits
returns-clause-many c = refl

pub returns-clause-address : goal.returns-clause-address
unfolding digits
returns-clause-address c = refl

pub returns-clause-overlap : goal.returns-clause-overlap
unfolding digits
returns-clause-overlap c = refl

pub returns-clause-full : goal.returns-clause-full
unfolding digits
returns-clause-full c = refl

pub returns-clause-half : goal.returns-clause-half
unfolding digits
returns-clause-half c = refl

pub returns-clause-outside : goal.returns-clause-outside
unfolding digits
returns-clause-outside c = refl

pub returns-clause-no_ram : goal.returns-clause-no_ram
unfolding digits
returns-clause-no_ram c = refl

pub returns-clause-large : goal.returns-clause-large
unfolding digits
returns-clause-large c = refl
