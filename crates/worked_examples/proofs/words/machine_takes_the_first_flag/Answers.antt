-- By computing.
use Rattle.std.specs.Prelude.{refl}
use Rattle.page_memory.specs.Memory.{word}
use Rattle.kx_pages.specs.Bytes.{page_of}
use Rattle.page_memory.specs.inner.Contents.{page_with_word}
use Rattle.relocate_machine.specs.Machine.{kind_of}
use Rattle.worked_examples.proofs.words.machine_takes_the_first_flag.Goals as goal

pub returns-clause-destination_and_source : goal.returns-clause-destination_and_source
unfolding word page_of kind_of page_with_word
returns-clause-destination_and_source c = refl

pub returns-clause-all_flags : goal.returns-clause-all_flags
unfolding word page_of kind_of page_with_word
returns-clause-all_flags c = refl

pub returns-clause-link_and_done : goal.returns-clause-link_and_done
unfolding word page_of kind_of page_with_word
returns-clause-link_and_done c = refl

pub returns-clause-done_and_source : goal.returns-clause-done_and_source
unfolding word page_of kind_of page_with_word
returns-clause-done_and_source c = refl

pub returns-clause-source : goal.returns-clause-source
unfolding word page_of kind_of page_with_word
returns-clause-source c = refl

pub returns-clause-no_flag : goal.returns-clause-no_flag
unfolding word page_of kind_of page_with_word
returns-clause-no_flag c = refl

pub returns-clause-address : goal.returns-clause-address
unfolding word page_of kind_of page_with_word
returns-clause-address c = refl
