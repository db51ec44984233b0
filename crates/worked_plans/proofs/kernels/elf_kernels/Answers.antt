-- By computing, but the image: its runs of pages are found by which pages the loads meet.
use Rattle.std.proofs.Common.{refl, ap}
use Rattle.bzimage.specs.Kernel.{header_fault, kernel_reading, read_header, tested_header}
use Rattle.bzimage.specs.Signature.{is_bzimage}
use Rattle.elf_image.specs.FileHeader.{exec_fault, exec_header, read_class, read_header as elf_image_read_header}
use Rattle.elf_image.specs.Loads.{exec_reading, load_fault, load_onto, loads_onto, read_loads}
use Rattle.kexec_plan.specs.Formats.{shown_format}
use Rattle.kexec_plan.specs.Kernels.{elf_kernel, linux_kernel, multiboot_kernel, read_kernel}
use Rattle.kx_fields.specs.Fields.{field}
use Rattle.memory_map.specs.Maps.{outside, without_area}
use Rattle.multiboot_image.specs.Header.{find_header, header_of, header_place, unknown_bit}
use Rattle.multiboot_image.specs.Parts.{elf_parts, kludge_parts}
use Rattle.std.specs.Int.RustNames.{count_ones}
use Rattle.worked_plans.proofs.Imaging.{kernel_of, their_image}
use Rattle.worked_plans.proofs.kernels.elf_kernels.Goals as goal

pub returns-clause-kernel : goal.returns-clause-kernel
unfolding elf_kernel exec_reading exec_header read_loads exec_fault loads_onto read_class elf_image_read_header load_onto load_fault field
returns-clause-kernel c = ap kernel_of their_image

pub returns-clause-of_the_form : goal.returns-clause-of_the_form
unfolding read_kernel shown_format elf_kernel linux_kernel multiboot_kernel is_bzimage find_header exec_reading kernel_reading header_place exec_header read_loads tested_header field header_of elf_image_read_header exec_fault loads_onto read_header header_fault kludge_parts elf_parts unknown_bit read_class load_onto outside load_fault without_area count_ones
returns-clause-of_the_form c = refl

pub returns-clause-elf32 : goal.returns-clause-elf32
unfolding elf_kernel exec_reading exec_header read_loads elf_image_read_header exec_fault loads_onto read_class load_onto load_fault field
returns-clause-elf32 c = refl

pub returns-clause-object : goal.returns-clause-object
unfolding elf_kernel exec_reading exec_header read_loads elf_image_read_header exec_fault loads_onto read_class load_onto load_fault field
returns-clause-object c = refl

pub returns-clause-machine : goal.returns-clause-machine
unfolding elf_kernel exec_reading exec_header read_loads elf_image_read_header exec_fault loads_onto read_class load_onto load_fault field
returns-clause-machine c = refl
