-- By computing.
use Rattle.std.proofs.Common.{refl}
use Rattle.bzimage.specs.Kernel.{header_fault, kernel_reading, read_header, tested_header}
use Rattle.bzimage.specs.Signature.{is_bzimage}
use Rattle.elf_image.specs.FileHeader.{exec_fault, exec_header, read_class, read_header as elf_image_read_header}
use Rattle.elf_image.specs.Image.{image, runs, up_to_last}
use Rattle.elf_image.specs.Loads.{exec_reading, load_fault, load_onto, loads_onto, read_loads}
use Rattle.kexec_plan.specs.Formats.{shown_format}
use Rattle.kexec_plan.specs.Kernels.{elf_kernel, linux_kernel, multiboot_kernel, read_kernel}
use Rattle.kx_fields.specs.Fields.{field, with_field, zeros}
use Rattle.kx_pages.specs.Spans.{passing}
use Rattle.memory_map.specs.Maps.{outside, without_area}
use Rattle.multiboot_image.specs.Header.{find_header, header_of, header_place, unknown_bit}
use Rattle.multiboot_image.specs.Parts.{elf_parts, kludge_parts}
use Rattle.std.specs.Int.RustNames.{count_ones}
use Rattle.worked_plans.proofs.kernels.linux_kernels.Goals as goal

pub returns-clause-high : goal.returns-clause-high
unfolding linux_kernel kernel_reading zeros tested_header with_field read_header header_fault is_bzimage outside field without_area count_ones
returns-clause-high c = refl

pub returns-clause-low : goal.returns-clause-low
unfolding linux_kernel kernel_reading zeros tested_header with_field read_header header_fault is_bzimage outside field without_area count_ones
returns-clause-low c = refl

pub returns-clause-no_entry : goal.returns-clause-no_entry
unfolding read_kernel zeros shown_format elf_kernel linux_kernel multiboot_kernel with_field is_bzimage find_header exec_reading image kernel_reading header_place exec_header read_loads tested_header field header_of elf_image_read_header exec_fault loads_onto passing runs read_header header_fault kludge_parts elf_parts unknown_bit read_class load_onto outside load_fault up_to_last without_area count_ones
returns-clause-no_entry c = refl

pub returns-clause-no_kernel : goal.returns-clause-no_kernel
unfolding linux_kernel kernel_reading tested_header read_header header_fault is_bzimage outside field without_area count_ones
returns-clause-no_kernel c = refl
