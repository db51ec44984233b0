use Rattle.std.proofs.Common.{◌∙◌, ap, sym, Ok, length, []}
use Rattle.std.specs.Prelude.{filter}
use Rattle.kx_laws.specs.Results.{◌>>=◌}
use Rattle.elf_image.specs.ProgramHeader.{loads_of}
use Rattle.elf_image.specs.Loads.{has_memory, loads_onto, read_loads}
use Rattle.elf_image.proofs.Failing.{fails_on}
use Rattle.elf_image.proofs.loads.read_loads.Goals as goal

pub returns-in-Ok : goal.returns-in-Ok
unfolding read_loads
returns-in-Ok c =
    ap (λ r. r >>= λ ls. Ok (filter has_memory ls)) c.in-Ok.ensures ∙ ap Ok (sym c.with_memory.ensures)

pub returns-in-Err : goal.returns-in-Err
unfolding read_loads
returns-in-Err c = fails_on c.in-Err.fault (loads_onto (length c.args.bytes.now) [] (loads_of c.args.header.now c.args.bytes.now)) (λ ls. Ok (filter has_memory ls)) c.in-Err.ensures
