use Rattle.worked_commands.specs.Names.{exec_record}
use Rattle.std.proofs.Common.{false}
use Rattle.worked_commands.proofs.WrongExecs.{again_follows, end_follows, leaves_follow, runs_follow}
use Rattle.worked_commands.proofs.wrong_execs.fields_that_follow_from_an_accepted_list.Goals as goal

pub returns-clause-ends : goal.returns-clause-ends
returns-clause-ends c = λ m r c bare is t. end_follows (exec_record false) m r c is t bare

pub returns-clause-ends_again : goal.returns-clause-ends_again
returns-clause-ends_again c = λ e m r c bare is t. again_follows e m r c is t bare

pub returns-clause-runs : goal.returns-clause-runs
returns-clause-runs c = λ e m r c bare is t. runs_follow e m r c is t bare

pub returns-clause-leaves : goal.returns-clause-leaves
returns-clause-leaves c = λ e m r c is t. leaves_follow e m r c is t
