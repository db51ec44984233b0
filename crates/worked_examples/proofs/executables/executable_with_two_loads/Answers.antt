-- By computing.
use Rattle.std.specs.Prelude.{refl}
use Rattle.elf_image.specs.FileHeader.{read_class, exec_fault, exec_header, read_header}
use Rattle.elf_image.specs.Image.{runs, up_to_last}
use Rattle.elf_image.specs.Loads.{exec_reading, load_fault, load_onto, loads_onto, read_loads}
use Rattle.kx_fields.specs.Fields.{field}
use Rattle.worked_examples.proofs.executables.executable_with_two_loads.Goals as goal

pub returns-clause-read : goal.returns-clause-read
unfolding exec_reading exec_header read_loads read_header exec_fault loads_onto read_class load_onto load_fault field
returns-clause-read c = refl

pub returns-clause-pages : goal.returns-clause-pages
unfolding runs
returns-clause-pages c = refl

pub returns-clause-bytes : goal.returns-clause-bytes
returns-clause-bytes c = refl

pub returns-clause-up_to_the_last : goal.returns-clause-up_to_the_last
unfolding up_to_last
returns-clause-up_to_the_last c = refl
