-- By computing.
use Rattle.std.specs.Prelude.{refl}
use Rattle.kx_fields.specs.Fields.{with_field, zeros}
use Rattle.multiboot_image.specs.Info.{info, info_text}
use Rattle.multiboot_image.specs.MapRows.{mem_lower, mem_upper, row_text}
use Rattle.multiboot_image.specs.Modules.{module_text}
use Rattle.worked_examples.proofs.multiboots.information_of_a_kernel.Goals as goal

pub returns-clause-bytes : goal.returns-clause-bytes
unfolding info info_text zeros mem_lower mem_upper row_text module_text with_field
returns-clause-bytes c = refl

pub returns-clause-size : goal.returns-clause-size
returns-clause-size c = refl

pub returns-clause-lower : goal.returns-clause-lower
unfolding mem_lower
returns-clause-lower c = refl

pub returns-clause-upper : goal.returns-clause-upper
unfolding mem_upper
returns-clause-upper c = refl

pub returns-clause-places : goal.returns-clause-places
returns-clause-places c = refl

pub returns-clause-modules : goal.returns-clause-modules
unfolding module_text zeros with_field
returns-clause-modules c = refl

pub returns-clause-names : goal.returns-clause-names
returns-clause-names c = refl
