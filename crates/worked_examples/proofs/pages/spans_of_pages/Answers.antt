-- By computing.
use Rattle.std.specs.Prelude.{refl}
use Rattle.worked_examples.proofs.pages.spans_of_pages.Goals as goal

pub returns-clause-one : goal.returns-clause-one
returns-clause-one c = refl

pub returns-clause-two : goal.returns-clause-two
returns-clause-two c = refl

pub returns-clause-pages : goal.returns-clause-pages
returns-clause-pages c = refl

pub returns-clause-none : goal.returns-clause-none
returns-clause-none c = refl
