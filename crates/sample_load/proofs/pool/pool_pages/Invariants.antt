use Rattle.std.proofs.Common.{◌≡◌}
use Rattle.sample_load.specs.Samples.{pool_pages}
use Rattle.sample_load.proofs.pool.pool_pages.Given as goal

abbrev pub invariant-loop-k : goal.invariant-loop-k
invariant-loop-k l = l.pages.items ≡ pool_pages l.k
