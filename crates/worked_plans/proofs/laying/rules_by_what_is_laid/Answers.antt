-- By computing.
use Rattle.std.proofs.Common.{refl}
use Rattle.boot_params.specs.Params.{params_length}
use Rattle.kx_fields.specs.Fields.{with_field, zeros}
use Rattle.worked_plans.proofs.laying.rules_by_what_is_laid.Goals as goal

pub returns-clause-given : goal.returns-clause-given
unfolding params_length
returns-clause-given c = refl

pub returns-clause-parameters : goal.returns-clause-parameters
unfolding params_length zeros with_field
returns-clause-parameters c = refl

pub returns-clause-module : goal.returns-clause-module
unfolding params_length
returns-clause-module c = refl

pub returns-clause-information : goal.returns-clause-information
unfolding params_length
returns-clause-information c = refl
