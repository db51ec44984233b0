-- By computing.
use Rattle.std.proofs.Common.{refl, ap}
use Rattle.file_commands.specs.Answers.{refused, unread, unwritten}
use Rattle.file_commands.specs.Taking.{too_long}
use Rattle.worked_commands.proofs.statuses.statuses_with_a_name.Goals as goal

pub returns-clause-unread : goal.returns-clause-unread
returns-clause-unread c = λ e. ap (λ n. unread n) e

pub returns-clause-unread_code : goal.returns-clause-unread_code
returns-clause-unread_code c = refl

pub returns-clause-unwritten : goal.returns-clause-unwritten
returns-clause-unwritten c = λ e. ap (λ n. unwritten n) e

pub returns-clause-unwritten_code : goal.returns-clause-unwritten_code
returns-clause-unwritten_code c = refl

pub returns-clause-too_long : goal.returns-clause-too_long
returns-clause-too_long c = λ e. ap (λ n. refused (too_long n 77)) e

pub returns-clause-too_long_code : goal.returns-clause-too_long_code
returns-clause-too_long_code c = refl
