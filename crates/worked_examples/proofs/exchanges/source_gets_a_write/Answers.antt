-- By computing.
use Rattle.std.specs.Prelude.{refl}
use Rattle.worked_examples.proofs.exchanges.source_gets_a_write.Goals as goal

pub returns-clause-destination : goal.returns-clause-destination
returns-clause-destination c = λ M z. refl

pub returns-clause-source : goal.returns-clause-source
returns-clause-source c = λ M z. refl
