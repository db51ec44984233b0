use Rattle.boot_laws.proofs.Returning.{booted_memory_returns}
use Rattle.boot_laws.proofs.returned.booted_memory_returns.Goals as goal

pub returns : goal.returns
returns g c = booted_memory_returns g.S.Shelf g.O.Sink
