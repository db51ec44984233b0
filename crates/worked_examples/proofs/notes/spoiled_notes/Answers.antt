-- By computing.
use Rattle.std.specs.Prelude.{refl}
use Rattle.crash_headers.specs.Notes.{line_onto, note_of}
use Rattle.text_lines.specs.Lines.{cut, lines, number, number_of, lines_onto, two_numbers}
use Rattle.worked_examples.proofs.notes.spoiled_notes.Goals as goal

pub returns-clause-no_size : goal.returns-clause-no_size
unfolding lines_onto two_numbers lines line_onto note_of cut number number_of
returns-clause-no_size c = refl

pub returns-clause-no_bytes : goal.returns-clause-no_bytes
unfolding lines_onto two_numbers lines line_onto note_of cut number number_of
returns-clause-no_bytes c = refl

pub returns-clause-past_the_limit : goal.returns-clause-past_the_limit
unfolding lines_onto two_numbers lines line_onto note_of cut number number_of
returns-clause-past_the_limit c = refl

pub returns-clause-up_to_the_limit : goal.returns-clause-up_to_the_limit
unfolding lines_onto two_numbers lines line_onto note_of cut number number_of
returns-clause-up_to_the_limit c = refl
