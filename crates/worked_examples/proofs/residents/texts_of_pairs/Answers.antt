-- By computing.
use Rattle.std.specs.Prelude.{refl}
use Rattle.resident_planner.specs.Pairs.{line_onto, pair_of}
use Rattle.text_lines.specs.Lines.{cut, lines, number, number_of, lines_onto, two_numbers}
use Rattle.worked_examples.proofs.residents.texts_of_pairs.Goals as goal

pub returns-clause-two : goal.returns-clause-two
unfolding lines_onto two_numbers lines line_onto pair_of cut number number_of
returns-clause-two c = refl

pub returns-clause-none : goal.returns-clause-none
unfolding lines_onto two_numbers lines line_onto pair_of cut number number_of
returns-clause-none c = refl

pub returns-clause-no_source : goal.returns-clause-no_source
unfolding lines_onto two_numbers lines line_onto pair_of cut number number_of
returns-clause-no_source c = refl

pub returns-clause-past_the_limit : goal.returns-clause-past_the_limit
unfolding lines_onto two_numbers lines line_onto pair_of cut number number_of
returns-clause-past_the_limit c = refl
