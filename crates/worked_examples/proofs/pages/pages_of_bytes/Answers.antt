-- By computing.
use Rattle.std.specs.Prelude.{refl}
use Rattle.worked_examples.proofs.pages.pages_of_bytes.Goals as goal

pub returns-clause-pages : goal.returns-clause-pages
returns-clause-pages c = refl

pub returns-clause-whole : goal.returns-clause-whole
returns-clause-whole c = refl

pub returns-clause-met : goal.returns-clause-met
returns-clause-met c = refl

pub returns-clause-count : goal.returns-clause-count
returns-clause-count c = refl

pub returns-clause-page : goal.returns-clause-page
returns-clause-page c = refl

pub returns-clause-no_address : goal.returns-clause-no_address
returns-clause-no_address c = refl

pub returns-clause-addresses : goal.returns-clause-addresses
returns-clause-addresses c = refl
