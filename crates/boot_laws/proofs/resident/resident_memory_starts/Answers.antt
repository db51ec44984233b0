use Rattle.boot_laws.proofs.Residing.{resident_memory_starts}
use Rattle.boot_laws.proofs.resident.resident_memory_starts.Goals as goal

pub returns : goal.returns
returns g c = resident_memory_starts g.S.Shelf g.O.Sink
