-- By computing.
use Rattle.std.specs.Prelude.{refl}
use Rattle.worked_examples.proofs.exchanges.exchanged_once.Goals as goal

pub returns-clause-destination : goal.returns-clause-destination
returns-clause-destination c = λ M. refl

pub returns-clause-source : goal.returns-clause-source
returns-clause-source c = λ M. refl

pub returns-clause-own_source : goal.returns-clause-own_source
returns-clause-own_source c = λ M. refl

pub returns-clause-swap_page : goal.returns-clause-swap_page
returns-clause-swap_page c = λ M. refl

pub returns-clause-link_page : goal.returns-clause-link_page
returns-clause-link_page c = λ M. refl
