-- By computing.
use Rattle.std.specs.Prelude.{refl}
use Rattle.crash_headers.specs.Headers.{headers}
use Rattle.elf_headers.specs.FileHeader.{header_text}
use Rattle.elf_headers.specs.ProgramHeader.{row_text}
use Rattle.kx_fields.specs.Fields.{with_field, zeros}
use Rattle.worked_examples.proofs.headers.headers_of_a_crash_kernel.Goals as goal

pub returns-clause-bytes : goal.returns-clause-bytes
unfolding headers header_text row_text zeros with_field
returns-clause-bytes c = refl

pub returns-clause-length : goal.returns-clause-length
unfolding headers header_text row_text zeros with_field
returns-clause-length c = refl

pub returns-clause-made : goal.returns-clause-made
unfolding headers header_text row_text zeros with_field
returns-clause-made c = refl

pub returns-clause-note_in_the_area : goal.returns-clause-note_in_the_area
unfolding headers header_text row_text zeros with_field
returns-clause-note_in_the_area c = refl

pub returns-clause-note_past_a_range : goal.returns-clause-note_past_a_range
unfolding headers header_text row_text zeros with_field
returns-clause-note_past_a_range c = refl

pub returns-clause-too_many : goal.returns-clause-too_many
unfolding headers header_text row_text zeros with_field
returns-clause-too_many c = refl
