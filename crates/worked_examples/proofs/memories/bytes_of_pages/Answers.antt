-- By computing.
use Rattle.std.specs.Prelude.{refl}
use Rattle.kx_pages.specs.Bytes.{page_of}
use Rattle.page_memory.specs.Addresses.{bytes_in}
use Rattle.worked_examples.proofs.memories.bytes_of_pages.Goals as goal

pub returns-clause-border : goal.returns-clause-border
unfolding bytes_in page_of
returns-clause-border c = refl

pub returns-clause-stored : goal.returns-clause-stored
unfolding bytes_in page_of
returns-clause-stored c = refl
