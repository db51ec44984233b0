-- By computing.
use Rattle.std.specs.Prelude.{refl}
use Rattle.kx_pages.specs.Bytes.{page_of}
use Rattle.worked_commands.proofs.runs.memory_after_runs.Goals as goal

pub returns-clause-plain_destination : goal.returns-clause-plain_destination
unfolding page_of
returns-clause-plain_destination c = λ m. refl

pub returns-clause-plain_source : goal.returns-clause-plain_source
unfolding page_of
returns-clause-plain_source c = λ m. refl

pub returns-clause-once_destination : goal.returns-clause-once_destination
unfolding page_of
returns-clause-once_destination c = λ m. refl

pub returns-clause-once_source : goal.returns-clause-once_source
unfolding page_of
returns-clause-once_source c = λ m. refl

pub returns-clause-once_swap_page : goal.returns-clause-once_swap_page
unfolding page_of
returns-clause-once_swap_page c = λ m. refl

pub returns-clause-twice_destination : goal.returns-clause-twice_destination
unfolding page_of
returns-clause-twice_destination c = λ m. refl

pub returns-clause-twice_source : goal.returns-clause-twice_source
unfolding page_of
returns-clause-twice_source c = λ m. refl

pub returns-clause-twice_swap_page : goal.returns-clause-twice_swap_page
unfolding page_of
returns-clause-twice_swap_page c = λ m. refl
