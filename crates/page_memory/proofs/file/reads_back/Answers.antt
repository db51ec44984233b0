use Rattle.std.proofs.Common.{ap, Ok}
use Rattle.kx_laws.specs.Results.{◌>>=◌}
use Rattle.page_memory.proofs.RoundTrip.{file_read}
use Rattle.page_memory.proofs.file.reads_back.Goals as goal

pub returns : goal.returns
returns c = λ m is few. let r = file_read m is few in (record { pages = r.0; sets = 0 }, ap (λ x. x >>= λ m. Ok (record { pages = m; sets = 0 })) r.1, r.2)
