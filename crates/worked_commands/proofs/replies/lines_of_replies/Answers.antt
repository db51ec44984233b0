-- By computing.
use Rattle.std.specs.Prelude.{refl}
use Rattle.std.specs.Fmt.{digits}
use Rattle.load_commands.specs.Replies.{reply_line}
use Rattle.worked_commands.proofs.replies.lines_of_replies.Goals as goal

pub returns-clause-memory : goal.returns-clause-memory
unfolding digits reply_line
returns-clause-memory c = refl

pub returns-clause-done : goal.returns-clause-done
unfolding digits reply_line
returns-clause-done c = refl

pub returns-clause-gone : goal.returns-clause-gone
unfolding digits reply_line
returns-clause-gone c = refl

pub returns-clause-busy : goal.returns-clause-busy
unfolding digits reply_line
returns-clause-busy c = refl

pub returns-clause-opened : goal.returns-clause-opened
unfolding digits reply_line
returns-clause-opened c = refl

pub returns-clause-no_area : goal.returns-clause-no_area
unfolding digits reply_line
returns-clause-no_area c = refl

pub returns-clause-not_open : goal.returns-clause-not_open
unfolding digits reply_line
returns-clause-not_open c = refl

pub returns-clause-written : goal.returns-clause-written
unfolding digits reply_line
returns-clause-written c = refl

pub returns-clause-not_written : goal.returns-clause-not_written
unfolding digits reply_line
returns-clause-not_written c = refl

pub returns-clause-segments : goal.returns-clause-segments
unfolding digits reply_line
returns-clause-segments c = refl

pub returns-clause-no_pages : goal.returns-clause-no_pages
unfolding digits reply_line
returns-clause-no_pages c = refl

pub returns-clause-no_image : goal.returns-clause-no_image
unfolding digits reply_line
returns-clause-no_image c = refl

pub returns-clause-touched : goal.returns-clause-touched
unfolding digits reply_line
returns-clause-touched c = refl
