-- By computing.
use Rattle.std.proofs.Common.{refl}
use Rattle.bzimage.specs.Signature.{is_bzimage}
use Rattle.kexec_plan.specs.Formats.{shown_format}
use Rattle.kx_fields.specs.Fields.{field, with_field, zeros}
use Rattle.multiboot_image.specs.Header.{find_header, header_of, header_place, unknown_bit}
use Rattle.worked_plans.proofs.formats.forms_of_files.Goals as goal

pub returns-clause-headers : goal.returns-clause-headers
returns-clause-headers c = refl

pub returns-clause-bzimage : goal.returns-clause-bzimage
unfolding shown_format is_bzimage find_header zeros header_place with_field field header_of unknown_bit
returns-clause-bzimage c = refl

pub returns-clause-bzimage_first : goal.returns-clause-bzimage_first
unfolding shown_format is_bzimage find_header zeros header_place with_field field header_of unknown_bit
returns-clause-bzimage_first c = refl

pub returns-clause-multiboot : goal.returns-clause-multiboot
unfolding shown_format is_bzimage find_header header_place field header_of unknown_bit
returns-clause-multiboot c = refl

pub returns-clause-unknown_flag : goal.returns-clause-unknown_flag
unfolding shown_format is_bzimage find_header header_place field header_of unknown_bit
returns-clause-unknown_flag c = refl

pub returns-clause-multiboot_before_elf : goal.returns-clause-multiboot_before_elf
unfolding shown_format is_bzimage find_header header_place field header_of unknown_bit
returns-clause-multiboot_before_elf c = refl

pub returns-clause-elf : goal.returns-clause-elf
unfolding shown_format is_bzimage find_header header_place field header_of unknown_bit
returns-clause-elf c = refl

pub returns-clause-magic_alone : goal.returns-clause-magic_alone
unfolding shown_format is_bzimage find_header header_place field header_of unknown_bit
returns-clause-magic_alone c = refl

pub returns-clause-cut_magic : goal.returns-clause-cut_magic
unfolding shown_format is_bzimage find_header header_place field header_of unknown_bit
returns-clause-cut_magic c = refl

pub returns-clause-zeros : goal.returns-clause-zeros
unfolding shown_format is_bzimage find_header header_place field header_of unknown_bit
returns-clause-zeros c = refl
