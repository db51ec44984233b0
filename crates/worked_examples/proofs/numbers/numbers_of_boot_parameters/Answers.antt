-- By computing.
use Rattle.std.specs.Prelude.{refl}
use Rattle.worked_examples.proofs.numbers.numbers_of_boot_parameters.Goals as goal

pub returns-clause-low : goal.returns-clause-low
returns-clause-low c = refl

pub returns-clause-high : goal.returns-clause-high
returns-clause-high c = refl

pub returns-clause-address : goal.returns-clause-address
returns-clause-address c = refl

pub returns-clause-size : goal.returns-clause-size
returns-clause-size c = refl

pub returns-clause-high_up : goal.returns-clause-high_up
returns-clause-high_up c = refl

pub returns-clause-low_down : goal.returns-clause-low_down
returns-clause-low_down c = refl

pub returns-clause-places : goal.returns-clause-places
returns-clause-places c = refl

pub returns-clause-ends : goal.returns-clause-ends
returns-clause-ends c = refl
