-- By computing.
use Rattle.std.specs.Prelude.{refl}
use Rattle.kx_pages.specs.Bytes.{page_of}
use Rattle.worked_examples.proofs.loads.pool_is_a_page_short.Goals as goal

pub returns-clause-short : goal.returns-clause-short
unfolding page_of
returns-clause-short c = refl

pub returns-clause-short_kept : goal.returns-clause-short_kept
unfolding page_of
returns-clause-short_kept c = refl
