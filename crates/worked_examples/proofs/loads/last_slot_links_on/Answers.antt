-- By computing.
use Rattle.std.specs.Prelude.{refl}
use Rattle.worked_examples.proofs.loads.last_slot_links_on.Goals as goal

pub returns-clause-count : goal.returns-clause-count
returns-clause-count c = refl

pub returns-clause-words : goal.returns-clause-words
returns-clause-words c = refl
