use Rattle.boot_laws.proofs.Booting.{panic_memory_starts}
use Rattle.boot_laws.proofs.booted.panic_memory_starts.Goals as goal

pub returns : goal.returns
returns g c = panic_memory_starts g.S.Shelf g.O.Sink
