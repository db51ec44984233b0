-- By computing.
use Rattle.std.proofs.Common.{refl}
use Rattle.bzimage.specs.Signature.{is_bzimage}
use Rattle.kexec_plan.specs.Formats.{shown_format}
use Rattle.kx_fields.specs.Fields.{field, with_field, zeros}
use Rattle.multiboot_image.specs.Header.{find_header, header_of, header_place, unknown_bit}
use Rattle.worked_plans.proofs.formats.forms_that_are_given.Goals as goal

pub returns-clause-raw : goal.returns-clause-raw
unfolding shown_format zeros is_bzimage find_header with_field header_place field header_of unknown_bit
returns-clause-raw c = refl

pub returns-clause-elf : goal.returns-clause-elf
unfolding shown_format zeros is_bzimage find_header with_field header_place field header_of unknown_bit
returns-clause-elf c = refl

pub returns-clause-bzimage : goal.returns-clause-bzimage
unfolding shown_format zeros is_bzimage find_header with_field header_place field header_of unknown_bit
returns-clause-bzimage c = refl

pub returns-clause-multiboot : goal.returns-clause-multiboot
unfolding shown_format is_bzimage find_header header_place field header_of unknown_bit
returns-clause-multiboot c = refl

pub returns-clause-auto : goal.returns-clause-auto
unfolding shown_format is_bzimage find_header header_place field header_of unknown_bit
returns-clause-auto c = refl

pub returns-clause-of_a_request : goal.returns-clause-of_a_request
unfolding shown_format is_bzimage find_header header_place field header_of unknown_bit
returns-clause-of_a_request c = refl

pub returns-clause-bzimages : goal.returns-clause-bzimages
unfolding shown_format is_bzimage find_header header_place field header_of unknown_bit
returns-clause-bzimages c = refl

pub returns-clause-multiboots : goal.returns-clause-multiboots
unfolding shown_format is_bzimage find_header header_place field header_of unknown_bit
returns-clause-multiboots c = refl
