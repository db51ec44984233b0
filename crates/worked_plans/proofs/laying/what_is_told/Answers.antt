-- By computing.
use Rattle.std.proofs.Common.{refl}
use Rattle.kx_fields.specs.Fields.{with_field, zeros}
use Rattle.std.specs.Fmt.{digits}
use Rattle.worked_plans.proofs.laying.what_is_told.Goals as goal

pub returns-clause-image : goal.returns-clause-image
unfolding digits
returns-clause-image c = refl

pub returns-clause-initrd : goal.returns-clause-initrd
unfolding digits
returns-clause-initrd c = refl

pub returns-clause-headers : goal.returns-clause-headers
unfolding digits
returns-clause-headers c = refl

pub returns-clause-parameters : goal.returns-clause-parameters
unfolding zeros with_field digits
returns-clause-parameters c = refl

pub returns-clause-module : goal.returns-clause-module
unfolding digits
returns-clause-module c = refl

pub returns-clause-information : goal.returns-clause-information
unfolding digits
returns-clause-information c = refl
