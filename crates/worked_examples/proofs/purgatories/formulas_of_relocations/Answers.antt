-- By computing.
use Rattle.std.specs.Prelude.{refl}
use Rattle.worked_examples.proofs.purgatories.formulas_of_relocations.Goals as goal

pub returns-clause-types : goal.returns-clause-types
returns-clause-types c = refl

pub returns-clause-whole : goal.returns-clause-whole
returns-clause-whole c = refl

pub returns-clause-relative : goal.returns-clause-relative
returns-clause-relative c = refl

pub returns-clause-relative_bytes : goal.returns-clause-relative_bytes
returns-clause-relative_bytes c = refl

pub returns-clause-unsigned : goal.returns-clause-unsigned
returns-clause-unsigned c = refl

pub returns-clause-signed : goal.returns-clause-signed
returns-clause-signed c = refl
