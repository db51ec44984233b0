-- By computing.
use Rattle.std.specs.Prelude.{refl}
use Rattle.page_memory.specs.Memory.{word}
use Rattle.kx_pages.specs.Bytes.{page_of}
use Rattle.page_memory.specs.inner.Contents.{page_with_word}
use Rattle.relocate_machine.specs.Machine.{kind_of}
use Rattle.worked_examples.proofs.words.words_of_items.Goals as goal

pub returns-clause-destination : goal.returns-clause-destination
unfolding word page_of kind_of page_with_word
returns-clause-destination c = refl

pub returns-clause-link : goal.returns-clause-link
unfolding word page_of kind_of page_with_word
returns-clause-link c = refl

pub returns-clause-done : goal.returns-clause-done
unfolding word page_of kind_of page_with_word
returns-clause-done c = refl

pub returns-clause-done_of_a_page : goal.returns-clause-done_of_a_page
unfolding word page_of kind_of page_with_word
returns-clause-done_of_a_page c = refl

pub returns-clause-source : goal.returns-clause-source
unfolding word page_of kind_of page_with_word
returns-clause-source c = refl
