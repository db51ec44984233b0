-- By computing.
use Rattle.std.specs.Prelude.{refl}
use Rattle.elf_headers.specs.FileHeader.{header_text}
use Rattle.elf_headers.specs.ProgramHeader.{row_text}
use Rattle.kx_fields.specs.Fields.{field, with_field, zeros}
use Rattle.kx_pages.specs.Bytes.{page_of}
use Rattle.page_memory.specs.Addresses.{bytes_in}
use Rattle.vmcore_file.specs.File.{file_text, head_text, loads_text}
use Rattle.vmcore_file.specs.Notes.{note_in, notes_in}
use Rattle.vmcore_file.specs.Table.{count_at, rows_at, table_at, test_rows}
use Rattle.worked_examples.proofs.cores.core_file_of_a_memory.Goals as goal

pub returns-clause-kept : goal.returns-clause-kept
unfolding notes_in page_of note_in field
returns-clause-kept c = refl

pub returns-clause-cut_note : goal.returns-clause-cut_note
unfolding notes_in note_in field
returns-clause-cut_note c = refl

pub returns-clause-made : goal.returns-clause-made
unfolding table_at page_of count_at test_rows rows_at file_text bytes_in head_text zeros loads_text header_text field row_text notes_in note_in with_field
returns-clause-made c = refl

pub returns-clause-no_headers : goal.returns-clause-no_headers
unfolding table_at page_of count_at test_rows rows_at file_text bytes_in head_text zeros loads_text header_text field row_text notes_in note_in with_field
returns-clause-no_headers c = refl

pub returns-clause-past_the_limit : goal.returns-clause-past_the_limit
unfolding table_at page_of count_at test_rows rows_at file_text bytes_in head_text zeros loads_text header_text field row_text notes_in note_in with_field
returns-clause-past_the_limit c = refl
