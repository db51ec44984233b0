-- By computing.
use Rattle.std.proofs.Common.{refl}
use Rattle.kx_fields.specs.Fields.{with_field, zeros}
use Rattle.memory_map.specs.Maps.{outside, without_area}
use Rattle.worked_plans.proofs.kernels.parts_of_a_linux_kernel.Goals as goal

pub returns-clause-no_initrd : goal.returns-clause-no_initrd
unfolding zeros with_field
returns-clause-no_initrd c = refl

pub returns-clause-initrd : goal.returns-clause-initrd
unfolding zeros with_field
returns-clause-initrd c = refl

pub returns-clause-unknown : goal.returns-clause-unknown
unfolding outside without_area zeros with_field
returns-clause-unknown c = refl

pub returns-clause-machine : goal.returns-clause-machine
unfolding outside without_area zeros with_field
returns-clause-machine c = refl

pub returns-clause-headers : goal.returns-clause-headers
unfolding outside without_area zeros with_field
returns-clause-headers c = refl

pub returns-clause-normal : goal.returns-clause-normal
unfolding outside zeros without_area with_field
returns-clause-normal c = refl

pub returns-clause-crash : goal.returns-clause-crash
unfolding zeros with_field outside without_area
returns-clause-crash c = refl
