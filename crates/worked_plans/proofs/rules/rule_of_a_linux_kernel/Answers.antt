-- By computing.
use Rattle.std.proofs.Common.{refl}
use Rattle.kx_fields.specs.Fields.{with_field, zeros}
use Rattle.worked_plans.proofs.rules.rule_of_a_linux_kernel.Goals as goal

pub returns-clause-last : goal.returns-clause-last
returns-clause-last c = refl

pub returns-clause-kernel : goal.returns-clause-kernel
unfolding zeros with_field
returns-clause-kernel c = refl

pub returns-clause-long_file : goal.returns-clause-long_file
unfolding zeros with_field
returns-clause-long_file c = refl

pub returns-clause-low_address : goal.returns-clause-low_address
unfolding zeros with_field
returns-clause-low_address c = refl
