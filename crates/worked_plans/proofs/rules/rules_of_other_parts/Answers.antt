-- By computing.
use Rattle.std.proofs.Common.{refl}
use Rattle.boot_params.specs.Params.{params_length}
use Rattle.kx_fields.specs.Fields.{with_field, zeros}
use Rattle.worked_plans.proofs.rules.rules_of_other_parts.Goals as goal

pub returns-clause-highest : goal.returns-clause-highest
returns-clause-highest c = refl

pub returns-clause-initrd_most : goal.returns-clause-initrd_most
unfolding zeros with_field
returns-clause-initrd_most c = refl

pub returns-clause-initrd : goal.returns-clause-initrd
unfolding zeros with_field
returns-clause-initrd c = refl

pub returns-clause-headers : goal.returns-clause-headers
unfolding zeros with_field
returns-clause-headers c = refl

pub returns-clause-parameters : goal.returns-clause-parameters
unfolding params_length zeros with_field
returns-clause-parameters c = refl

pub returns-clause-parameters_of_many_rows : goal.returns-clause-parameters_of_many_rows
unfolding params_length zeros with_field
returns-clause-parameters_of_many_rows c = refl

pub returns-clause-module : goal.returns-clause-module
returns-clause-module c = refl

pub returns-clause-information : goal.returns-clause-information
returns-clause-information c = refl
