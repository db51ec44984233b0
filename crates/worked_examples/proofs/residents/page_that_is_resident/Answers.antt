-- By computing.
use Rattle.std.specs.Prelude.{refl}
use Rattle.worked_examples.proofs.residents.page_that_is_resident.Goals as goal

pub returns-clause-cycles : goal.returns-clause-cycles
returns-clause-cycles c = refl

pub returns-clause-sources : goal.returns-clause-sources
returns-clause-sources c = refl

pub returns-clause-copied : goal.returns-clause-copied
returns-clause-copied c = refl

pub returns-clause-need : goal.returns-clause-need
returns-clause-need c = refl

pub returns-clause-usable : goal.returns-clause-usable
returns-clause-usable c = refl
