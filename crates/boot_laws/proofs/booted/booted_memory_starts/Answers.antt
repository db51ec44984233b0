use Rattle.boot_laws.proofs.Booting.{booted_memory_starts}
use Rattle.boot_laws.proofs.booted.booted_memory_starts.Goals as goal

pub returns : goal.returns
returns g c = booted_memory_starts g.S.Shelf g.O.Sink
