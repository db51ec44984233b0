-- By computing.
use Rattle.std.specs.Prelude.{refl}
use Rattle.worked_examples.proofs.pages.pages_of_segments.Goals as goal

pub returns-clause-one : goal.returns-clause-one
returns-clause-one c = refl

pub returns-clause-some : goal.returns-clause-some
returns-clause-some c = refl

pub returns-clause-link_pages : goal.returns-clause-link_pages
returns-clause-link_pages c = refl
