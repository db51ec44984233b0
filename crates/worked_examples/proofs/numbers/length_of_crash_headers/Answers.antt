-- By computing.
use Rattle.std.specs.Prelude.{refl}
use Rattle.worked_examples.proofs.numbers.length_of_crash_headers.Goals as goal

pub returns-clause-two_notes : goal.returns-clause-two_notes
returns-clause-two_notes c = refl

pub returns-clause-nothing : goal.returns-clause-nothing
returns-clause-nothing c = refl
