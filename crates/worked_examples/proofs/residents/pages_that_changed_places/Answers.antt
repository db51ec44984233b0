-- By computing.
use Rattle.std.specs.Prelude.{refl}
use Rattle.worked_examples.proofs.residents.pages_that_changed_places.Goals as goal

pub returns-clause-cycles : goal.returns-clause-cycles
returns-clause-cycles c = refl

pub returns-clause-fresh : goal.returns-clause-fresh
returns-clause-fresh c = refl

pub returns-clause-ranks : goal.returns-clause-ranks
returns-clause-ranks c = refl

pub returns-clause-sources : goal.returns-clause-sources
returns-clause-sources c = refl

pub returns-clause-given : goal.returns-clause-given
returns-clause-given c = refl

pub returns-clause-list : goal.returns-clause-list
returns-clause-list c = refl

pub returns-clause-head : goal.returns-clause-head
returns-clause-head c = refl

pub returns-clause-copied : goal.returns-clause-copied
returns-clause-copied c = refl

pub returns-clause-need : goal.returns-clause-need
returns-clause-need c = refl
