-- By computing.
use Rattle.std.proofs.Common.{refl}
use Rattle.std.specs.Fmt.{digits}
use Rattle.worked_plans.proofs.commands.command_of_a_crash_kernel.Goals as goal

pub returns-clause-none : goal.returns-clause-none
returns-clause-none c = refl

pub returns-clause-some : goal.returns-clause-some
returns-clause-some c = refl

pub returns-clause-space : goal.returns-clause-space
returns-clause-space c = refl

pub returns-clause-no_space : goal.returns-clause-no_space
returns-clause-no_space c = refl

pub returns-clause-word : goal.returns-clause-word
unfolding digits
returns-clause-word c = refl

pub returns-clause-rounded_down : goal.returns-clause-rounded_down
unfolding digits
returns-clause-rounded_down c = refl

pub returns-clause-told : goal.returns-clause-told
unfolding digits
returns-clause-told c = refl

pub returns-clause-alone : goal.returns-clause-alone
unfolding digits
returns-clause-alone c = refl
