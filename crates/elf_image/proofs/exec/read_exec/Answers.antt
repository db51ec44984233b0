use Rattle.std.proofs.Common.{sym}
use Rattle.elf_image.proofs.Reading.{has_table, header_fails, loads_fail, reads}
use Rattle.elf_image.proofs.Sound.{exec_sound}
use Rattle.elf_image.proofs.exec.read_exec.Goals as goal

pub returns-in-Err-clause-exact : goal.returns-in-Err-clause-exact
returns-in-Err-clause-exact c = header_fails c.args.bytes.now c.in-Err.fault (sym c.in-Err.ensures)

pub read_loads-requires : goal.read_loads-requires
read_loads-requires c = has_table c.args.bytes.now c.in-Ok.header (sym c.in-Ok.ensures)

pub returns-in-Err-read_loads-clause-exact : goal.returns-in-Err-read_loads-clause-exact
returns-in-Err-read_loads-clause-exact c = loads_fail c.args.bytes.now c.in-Ok.header c.in-Err-read_loads.fault (sym c.in-Ok.ensures) c.in-Err-read_loads.ensures

pub returns-clause-exact : goal.returns-clause-exact
returns-clause-exact c = reads c.args.bytes.now c.in-Ok.header c.in-Ok-read_loads.loads.items (sym c.in-Ok.ensures) c.in-Ok-read_loads.ensures

pub returns-clause-sound : goal.returns-clause-sound
returns-clause-sound c = exec_sound c.args.bytes.now _ (returns-clause-exact c)
