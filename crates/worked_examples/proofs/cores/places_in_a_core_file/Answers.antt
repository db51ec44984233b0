-- By computing.
use Rattle.std.specs.Prelude.{refl}
use Rattle.worked_examples.proofs.cores.places_in_a_core_file.Goals as goal

pub returns-clause-next_page : goal.returns-clause-next_page
returns-clause-next_page c = refl

pub returns-clause-at_once : goal.returns-clause-at_once
returns-clause-at_once c = refl

pub returns-clause-inside_a_page : goal.returns-clause-inside_a_page
returns-clause-inside_a_page c = refl

pub returns-clause-in_this_page : goal.returns-clause-in_this_page
returns-clause-in_this_page c = refl

pub returns-clause-few : goal.returns-clause-few
returns-clause-few c = refl

pub returns-clause-first_page : goal.returns-clause-first_page
returns-clause-first_page c = refl

pub returns-clause-second_page : goal.returns-clause-second_page
returns-clause-second_page c = refl

pub returns-clause-loads : goal.returns-clause-loads
returns-clause-loads c = refl
