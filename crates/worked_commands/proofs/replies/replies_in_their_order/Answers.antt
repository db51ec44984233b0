-- By computing.
use Rattle.std.specs.Prelude.{refl}
use Rattle.std.specs.Fmt.{digits}
use Rattle.load_commands.specs.Replies.{reply_line}
use Rattle.worked_commands.proofs.replies.replies_in_their_order.Goals as goal

pub returns-clause-none : goal.returns-clause-none
unfolding digits reply_line
returns-clause-none c = refl

pub returns-clause-numbered : goal.returns-clause-numbered
unfolding digits reply_line
returns-clause-numbered c = refl
