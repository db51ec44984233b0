-- By computing.
use Rattle.std.specs.Prelude.{refl}
use Rattle.kx_pages.specs.Bytes.{page_of}
use Rattle.kx_fields.specs.Fields.{field}
use Rattle.page_memory.specs.File.{read_pages, pages_onto, entry_at, text_of}
use Rattle.worked_examples.proofs.files.empty_memory_file.Goals as goal

pub returns-clause-bytes : goal.returns-clause-bytes
unfolding text_of
returns-clause-bytes c = refl

pub returns-clause-read : goal.returns-clause-read
unfolding read_pages pages_onto entry_at text_of field
returns-clause-read c = refl

pub returns-clause-three_pages : goal.returns-clause-three_pages
unfolding text_of page_of
returns-clause-three_pages c = refl

pub returns-clause-one_page : goal.returns-clause-one_page
unfolding read_pages pages_onto entry_at text_of field page_of
returns-clause-one_page c = refl
