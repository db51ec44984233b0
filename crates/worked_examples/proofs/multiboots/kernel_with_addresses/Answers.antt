-- By computing.
use Rattle.std.specs.Prelude.{refl}
use Rattle.elf_image.specs.FileHeader.{read_class, exec_fault, exec_header, read_header}
use Rattle.elf_image.specs.Image.{image, runs, up_to_last}
use Rattle.elf_image.specs.Loads.{exec_reading, load_fault, load_onto, loads_onto, read_loads}
use Rattle.kx_fields.specs.Fields.{field}
use Rattle.kx_pages.specs.Spans.{passing}
use Rattle.multiboot_image.specs.Header.{find_header, header_of, header_place, unknown_bit}
use Rattle.multiboot_image.specs.Parts.{elf_parts, kludge_parts}
use Rattle.worked_examples.proofs.multiboots.kernel_with_addresses.Goals as goal

pub returns-clause-header : goal.returns-clause-header
unfolding find_header header_place header_of unknown_bit field
returns-clause-header c = refl

pub returns-clause-whole_file : goal.returns-clause-whole_file
unfolding kludge_parts elf_parts exec_reading image exec_header read_loads read_header exec_fault loads_onto passing runs read_class load_onto load_fault up_to_last field
returns-clause-whole_file c = refl

pub returns-clause-more_memory : goal.returns-clause-more_memory
unfolding kludge_parts elf_parts exec_reading image exec_header read_loads read_header exec_fault loads_onto passing runs read_class load_onto load_fault up_to_last field
returns-clause-more_memory c = refl

pub returns-clause-too_little_memory : goal.returns-clause-too_little_memory
unfolding kludge_parts elf_parts exec_reading image exec_header read_loads read_header exec_fault loads_onto passing runs read_class load_onto load_fault up_to_last field
returns-clause-too_little_memory c = refl
