-- By computing.
use Rattle.std.specs.Prelude.{refl}
use Rattle.crash_headers.specs.Notes.{line_onto, note_of}
use Rattle.text_lines.specs.Lines.{cut, lines, number, number_of, lines_onto, two_numbers}
use Rattle.worked_examples.proofs.notes.notes_of_a_text.Goals as goal

pub returns-clause-one : goal.returns-clause-one
unfolding lines_onto two_numbers lines line_onto note_of cut number number_of
returns-clause-one c = refl

pub returns-clause-two : goal.returns-clause-two
unfolding lines_onto two_numbers lines line_onto note_of cut number number_of
returns-clause-two c = refl

pub returns-clause-none : goal.returns-clause-none
unfolding lines_onto two_numbers lines line_onto note_of cut number number_of
returns-clause-none c = refl
