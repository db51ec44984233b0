-- By computing.
use Rattle.std.specs.Prelude.{refl}
use Rattle.text_lines.specs.Lines.{lines, cut, number, number_of}
use Rattle.page_pool.specs.File.{pool_reading, pages_onto, line_onto, checked_range, range_of}
use Rattle.worked_examples.proofs.files.pool_texts.Goals as goal

pub returns-clause-range : goal.returns-clause-range
unfolding pool_reading pages_onto line_onto checked_range range_of lines cut number number_of
returns-clause-range c = refl

pub returns-clause-lines : goal.returns-clause-lines
unfolding pool_reading pages_onto line_onto checked_range range_of lines cut number number_of
returns-clause-lines c = refl

pub returns-clause-empty : goal.returns-clause-empty
unfolding pool_reading pages_onto line_onto checked_range range_of lines cut number number_of
returns-clause-empty c = refl

pub returns-clause-in_the_order_of_the_text : goal.returns-clause-in_the_order_of_the_text
unfolding pool_reading pages_onto line_onto checked_range range_of lines cut number number_of
returns-clause-in_the_order_of_the_text c = refl

pub returns-clause-last_page : goal.returns-clause-last_page
unfolding pool_reading pages_onto line_onto checked_range range_of lines cut number number_of
returns-clause-last_page c = refl
