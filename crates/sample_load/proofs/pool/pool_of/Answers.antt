use Rattle.std.proofs.Common.{arith, ap, length}
use Rattle.sample_load.proofs.Strides.{not_refused, length-pool_pages}
use Rattle.sample_load.proofs.pool.pool_of.Goals as goal

pub new-requires : goal.new-requires
new-requires c = omega (arith, c.requires, ap length c.in_ok-pages.ensures, length-pool_pages c.args.count)

pub unreachable-requires : goal.unreachable-requires
unreachable-requires c =
    not_refused c.args.count c.in_ok-pages.pages.items c.in-Err.fault c.in_ok-pages.ensures c.requires c.in-Err.ensures.exact c.in-Err.ensures.first c.in_default.not-Memory
