-- By computing.
use Rattle.std.proofs.Common.{refl}
use Rattle.kx_pages.specs.Bytes.{page_of}
use Rattle.worked_plans.proofs.residents.planned_pairs.Goals as goal

pub returns-clause-source : goal.returns-clause-source
unfolding page_of
returns-clause-source c = refl

pub returns-clause-link : goal.returns-clause-link
unfolding page_of
returns-clause-link c = refl
