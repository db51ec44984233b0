-- By computing.
use Rattle.std.specs.Prelude.{refl}
use Rattle.sample_load.specs.Samples.{pool_pages}
use Rattle.worked_examples.proofs.samples.draws_of_a_sample.Goals as goal

pub returns-clause-state : goal.returns-clause-state
returns-clause-state c = refl

pub returns-clause-next : goal.returns-clause-next
returns-clause-next c = refl

pub returns-clause-draw : goal.returns-clause-draw
returns-clause-draw c = refl

pub returns-clause-shape : goal.returns-clause-shape
returns-clause-shape c = refl

pub returns-clause-bytes : goal.returns-clause-bytes
returns-clause-bytes c = refl

pub returns-clause-pool : goal.returns-clause-pool
unfolding pool_pages
returns-clause-pool c = refl
