-- By computing.
use Rattle.std.proofs.Common.{refl}
use Rattle.worked_plans.proofs.places.addresses_that_are_free.Goals as goal

pub returns-clause-free : goal.returns-clause-free
returns-clause-free c = refl

pub returns-clause-two_pages : goal.returns-clause-two_pages
returns-clause-two_pages c = refl

pub returns-clause-a_byte : goal.returns-clause-a_byte
returns-clause-a_byte c = refl

pub returns-clause-across : goal.returns-clause-across
returns-clause-across c = refl
