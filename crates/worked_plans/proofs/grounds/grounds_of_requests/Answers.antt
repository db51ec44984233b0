-- By computing.
use Rattle.std.proofs.Common.{refl}
use Rattle.bzimage.specs.Signature.{is_bzimage}
use Rattle.kexec_plan.specs.Formats.{shown_format}
use Rattle.kx_fields.specs.Fields.{field}
use Rattle.multiboot_image.specs.Header.{find_header, header_of, header_place, unknown_bit}
use Rattle.worked_plans.proofs.grounds.grounds_of_requests.Goals as goal

pub returns-clause-open : goal.returns-clause-open
returns-clause-open c = refl

pub returns-clause-reserved : goal.returns-clause-reserved
returns-clause-reserved c = refl

pub returns-clause-crash : goal.returns-clause-crash
returns-clause-crash c = refl

pub returns-clause-normal : goal.returns-clause-normal
unfolding shown_format is_bzimage find_header header_place field header_of unknown_bit
returns-clause-normal c = refl

pub returns-clause-without_a_map : goal.returns-clause-without_a_map
unfolding shown_format is_bzimage find_header header_place field header_of unknown_bit
returns-clause-without_a_map c = refl

pub returns-clause-crash_bzimage : goal.returns-clause-crash_bzimage
unfolding shown_format is_bzimage find_header header_place field header_of unknown_bit
returns-clause-crash_bzimage c = refl

pub returns-clause-no_area : goal.returns-clause-no_area
unfolding shown_format is_bzimage find_header header_place field header_of unknown_bit
returns-clause-no_area c = refl

pub returns-clause-crash_elf : goal.returns-clause-crash_elf
unfolding shown_format is_bzimage find_header header_place field header_of unknown_bit
returns-clause-crash_elf c = refl

pub returns-clause-crash_raw : goal.returns-clause-crash_raw
unfolding shown_format is_bzimage find_header header_place field header_of unknown_bit
returns-clause-crash_raw c = refl

pub returns-clause-crash_multiboot : goal.returns-clause-crash_multiboot
unfolding shown_format is_bzimage find_header header_place field header_of unknown_bit
returns-clause-crash_multiboot c = refl
