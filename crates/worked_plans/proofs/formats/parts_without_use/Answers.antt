-- By computing.
use Rattle.std.proofs.Common.{refl}
use Rattle.bzimage.specs.Signature.{is_bzimage}
use Rattle.kexec_plan.specs.Formats.{shown_format}
use Rattle.kx_fields.specs.Fields.{field}
use Rattle.multiboot_image.specs.Header.{find_header, header_of, header_place, unknown_bit}
use Rattle.worked_plans.proofs.formats.parts_without_use.Goals as goal

pub returns-clause-some_modules : goal.returns-clause-some_modules
returns-clause-some_modules c = refl

pub returns-clause-all : goal.returns-clause-all
unfolding shown_format is_bzimage find_header header_place field header_of unknown_bit
returns-clause-all c = refl

pub returns-clause-no_initrd : goal.returns-clause-no_initrd
unfolding shown_format is_bzimage find_header header_place field header_of unknown_bit
returns-clause-no_initrd c = refl

pub returns-clause-command : goal.returns-clause-command
unfolding shown_format is_bzimage find_header header_place field header_of unknown_bit
returns-clause-command c = refl

pub returns-clause-initrd : goal.returns-clause-initrd
unfolding shown_format is_bzimage find_header header_place field header_of unknown_bit
returns-clause-initrd c = refl

pub returns-clause-nothing : goal.returns-clause-nothing
unfolding shown_format is_bzimage find_header header_place field header_of unknown_bit
returns-clause-nothing c = refl
