-- By computing.
use Rattle.std.specs.Prelude.{refl}
use Rattle.page_memory.specs.Memory.{word}
use Rattle.kx_pages.specs.Bytes.{page_of}
use Rattle.page_memory.specs.inner.Contents.{page_with_word}
use Rattle.relocate_machine.specs.Machine.{kind_of}
use Rattle.worked_examples.proofs.words.words_in_memory.Goals as goal

pub returns-clause-first : goal.returns-clause-first
unfolding word page_of kind_of page_with_word
returns-clause-first c = refl

pub returns-clause-second : goal.returns-clause-second
unfolding word page_of kind_of page_with_word
returns-clause-second c = refl

pub returns-clause-third : goal.returns-clause-third
unfolding word page_of kind_of page_with_word
returns-clause-third c = refl

pub returns-clause-rest : goal.returns-clause-rest
unfolding word page_of kind_of page_with_word
returns-clause-rest c = refl

pub returns-clause-lowest_byte_first : goal.returns-clause-lowest_byte_first
unfolding word page_of kind_of page_with_word
returns-clause-lowest_byte_first c = refl

pub returns-clause-last_slot : goal.returns-clause-last_slot
unfolding word page_of kind_of page_with_word
returns-clause-last_slot c = refl

pub returns-clause-changed : goal.returns-clause-changed
unfolding word page_of kind_of page_with_word
returns-clause-changed c = refl

pub returns-clause-unchanged : goal.returns-clause-unchanged
unfolding word page_of kind_of page_with_word
returns-clause-unchanged c = refl
