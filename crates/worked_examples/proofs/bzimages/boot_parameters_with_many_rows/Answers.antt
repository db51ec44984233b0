-- By computing.
use Rattle.std.specs.Prelude.{refl}
use Rattle.boot_params.specs.Params.{params_fault, params_length}
use Rattle.boot_params.specs.SetupData.{head_text}
use Rattle.kx_fields.specs.Fields.{with_field, zeros}
use Rattle.worked_examples.proofs.bzimages.boot_parameters_with_many_rows.Goals as goal

pub returns-clause-length : goal.returns-clause-length
unfolding params_length
returns-clause-length c = refl

pub returns-clause-place : goal.returns-clause-place
returns-clause-place c = refl

pub returns-clause-head : goal.returns-clause-head
unfolding head_text zeros with_field
returns-clause-head c = refl

pub returns-clause-pointer : goal.returns-clause-pointer
returns-clause-pointer c = refl

pub returns-clause-no_pointer : goal.returns-clause-no_pointer
returns-clause-no_pointer c = refl

pub returns-clause-too_many : goal.returns-clause-too_many
unfolding params_fault with_field zeros
returns-clause-too_many c = refl

pub returns-clause-long_command : goal.returns-clause-long_command
unfolding params_fault with_field zeros
returns-clause-long_command c = refl

pub returns-clause-nul : goal.returns-clause-nul
unfolding params_fault with_field zeros
returns-clause-nul c = refl
