-- By computing.
use Rattle.std.specs.Prelude.{refl}
use Rattle.kx_pages.specs.Bytes.{page_of}
use Rattle.kx_fields.specs.Fields.{field}
use Rattle.page_memory.specs.File.{entry_at, pages_onto, read_pages, text_of}
use Rattle.worked_examples.proofs.memories.memory_files_at_their_limits.Goals as goal

pub returns-clause-a_byte_short : goal.returns-clause-a_byte_short
unfolding entry_at field page_of pages_onto read_pages text_of
returns-clause-a_byte_short c = refl

pub returns-clause-greatest_count : goal.returns-clause-greatest_count
unfolding entry_at field page_of pages_onto read_pages text_of
returns-clause-greatest_count c = refl

pub returns-clause-last_page : goal.returns-clause-last_page
unfolding entry_at field page_of pages_onto read_pages text_of
returns-clause-last_page c = refl

pub returns-clause-same_page : goal.returns-clause-same_page
unfolding entry_at field page_of pages_onto read_pages text_of
returns-clause-same_page c = refl

pub returns-clause-next_page : goal.returns-clause-next_page
unfolding entry_at field page_of pages_onto read_pages text_of
returns-clause-next_page c = refl
