-- By computing.
use Rattle.std.proofs.Common.{refl}
use Rattle.sample_load.specs.Samples.{page_full_of, pages_of, pool_pages}
use Rattle.worked_plans.proofs.samples.memory_of_a_sample.Goals as goal

pub returns-clause-page : goal.returns-clause-page
unfolding page_full_of
returns-clause-page c = refl

pub returns-clause-filled : goal.returns-clause-filled
returns-clause-filled c = refl

pub returns-clause-memory : goal.returns-clause-memory
returns-clause-memory c = refl

pub returns-clause-pool : goal.returns-clause-pool
unfolding pool_pages
returns-clause-pool c = refl

pub returns-clause-pages : goal.returns-clause-pages
unfolding pages_of
returns-clause-pages c = refl
