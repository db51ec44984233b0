-- By computing.
use Rattle.std.specs.Prelude.{refl}
use Rattle.kx_pages.specs.Bytes.{page_of}
use Rattle.kx_fields.specs.Fields.{field}
use Rattle.page_memory.specs.File.{read_pages, pages_onto, entry_at, text_of}
use Rattle.worked_examples.proofs.files.spoiled_memory_files.Goals as goal

pub returns-clause-no_magic : goal.returns-clause-no_magic
unfolding read_pages pages_onto entry_at text_of field
returns-clause-no_magic c = refl

pub returns-clause-no_count : goal.returns-clause-no_count
unfolding read_pages pages_onto entry_at text_of field
returns-clause-no_count c = refl

pub returns-clause-too_many : goal.returns-clause-too_many
unfolding read_pages pages_onto entry_at text_of field
returns-clause-too_many c = refl

pub returns-clause-no_page : goal.returns-clause-no_page
unfolding read_pages pages_onto entry_at text_of field
returns-clause-no_page c = refl

pub returns-clause-page_of_zeros : goal.returns-clause-page_of_zeros
unfolding read_pages pages_onto entry_at text_of field
returns-clause-page_of_zeros c = refl

pub returns-clause-more : goal.returns-clause-more
unfolding read_pages pages_onto entry_at text_of field
returns-clause-more c = refl

pub returns-clause-not_rising : goal.returns-clause-not_rising
unfolding read_pages pages_onto entry_at text_of field page_of
returns-clause-not_rising c = refl

pub returns-clause-past_the_limit : goal.returns-clause-past_the_limit
unfolding read_pages pages_onto entry_at text_of field page_of
returns-clause-past_the_limit c = refl
