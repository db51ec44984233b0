-- By computing.
use Rattle.std.specs.Prelude.{refl}
use Rattle.worked_examples.proofs.lines.pages_of_a_map.Goals as goal

pub returns-clause-whole : goal.returns-clause-whole
returns-clause-whole c = refl

pub returns-clause-ram : goal.returns-clause-ram
returns-clause-ram c = refl

pub returns-clause-taken_by_an_area : goal.returns-clause-taken_by_an_area
returns-clause-taken_by_an_area c = refl

pub returns-clause-last_area : goal.returns-clause-last_area
returns-clause-last_area c = refl

pub returns-clause-no_whole_page : goal.returns-clause-no_whole_page
returns-clause-no_whole_page c = refl

pub returns-clause-no_area : goal.returns-clause-no_area
returns-clause-no_area c = refl
