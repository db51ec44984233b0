-- By computing.
use Rattle.std.specs.Prelude.{refl}
use Rattle.kx_pages.specs.Bytes.{page_of}
use Rattle.worked_examples.proofs.loads.kernel_without_bytes.Goals as goal

pub returns-clause-loading : goal.returns-clause-loading
unfolding page_of
returns-clause-loading c = refl

pub returns-clause-words : goal.returns-clause-words
unfolding page_of
returns-clause-words c = refl
