-- By computing.
use Rattle.std.specs.Prelude.{refl}
use Rattle.text_lines.specs.Lines.{lines, cut, number, number_of}
use Rattle.page_pool.specs.File.{pool_reading, pages_onto, line_onto, checked_range, range_of}
use Rattle.worked_examples.proofs.files.spoiled_pool_texts.Goals as goal

pub returns-clause-repeats : goal.returns-clause-repeats
unfolding pool_reading pages_onto line_onto checked_range range_of lines cut number number_of
returns-clause-repeats c = refl

pub returns-clause-backwards : goal.returns-clause-backwards
unfolding pool_reading pages_onto line_onto checked_range range_of lines cut number number_of
returns-clause-backwards c = refl

pub returns-clause-past_the_limit : goal.returns-clause-past_the_limit
unfolding pool_reading pages_onto line_onto checked_range range_of lines cut number number_of
returns-clause-past_the_limit c = refl

pub returns-clause-too_many : goal.returns-clause-too_many
unfolding pool_reading pages_onto line_onto checked_range range_of lines cut number number_of
returns-clause-too_many c = refl

pub returns-clause-no_number : goal.returns-clause-no_number
unfolding pool_reading pages_onto line_onto checked_range range_of lines cut number number_of
returns-clause-no_number c = refl

pub returns-clause-too_many_digits : goal.returns-clause-too_many_digits
unfolding pool_reading pages_onto line_onto checked_range range_of lines cut number number_of
returns-clause-too_many_digits c = refl
