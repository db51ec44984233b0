-- By computing.
use Rattle.std.specs.Prelude.{refl}
use Rattle.elf_image.specs.FileHeader.{read_class, exec_fault, exec_header, read_header}
use Rattle.elf_image.specs.Loads.{exec_reading, load_fault, load_onto, loads_onto, read_loads}
use Rattle.kx_fields.specs.Fields.{field}
use Rattle.worked_examples.proofs.executables.spoiled_executables.Goals as goal

pub returns-clause-no_elf : goal.returns-clause-no_elf
unfolding exec_reading exec_header read_loads read_header exec_fault loads_onto read_class load_onto load_fault field
returns-clause-no_elf c = refl

pub returns-clause-short_header : goal.returns-clause-short_header
unfolding exec_reading exec_header read_loads read_header exec_fault loads_onto read_class load_onto load_fault field
returns-clause-short_header c = refl

pub returns-clause-short_table : goal.returns-clause-short_table
unfolding exec_reading exec_header read_loads read_header exec_fault loads_onto read_class load_onto load_fault field
returns-clause-short_table c = refl

pub returns-clause-short_load : goal.returns-clause-short_load
unfolding exec_reading exec_header read_loads read_header exec_fault loads_onto read_class load_onto load_fault field
returns-clause-short_load c = refl

pub returns-clause-overlap : goal.returns-clause-overlap
unfolding exec_reading exec_header read_loads read_header exec_fault loads_onto read_class load_onto load_fault field
returns-clause-overlap c = refl

pub returns-clause-one_byte_over : goal.returns-clause-one_byte_over
unfolding exec_reading exec_header read_loads read_header exec_fault loads_onto read_class load_onto load_fault field
returns-clause-one_byte_over c = refl

pub returns-clause-machine : goal.returns-clause-machine
unfolding exec_reading exec_header read_loads read_header exec_fault loads_onto read_class load_onto load_fault field
returns-clause-machine c = refl

pub returns-clause-object : goal.returns-clause-object
unfolding exec_reading exec_header read_loads read_header exec_fault loads_onto read_class load_onto load_fault field
returns-clause-object c = refl

pub returns-clause-too_little_memory : goal.returns-clause-too_little_memory
unfolding exec_reading exec_header read_loads read_header exec_fault loads_onto read_class load_onto load_fault field
returns-clause-too_little_memory c = refl
