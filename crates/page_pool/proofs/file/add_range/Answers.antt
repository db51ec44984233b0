use Rattle.page_pool.proofs.file.add_range.Goals as goal
use Rattle.kx_laws.proofs.Lists.{range_pushed}

pub loop-i-preserved : goal.loop-i-preserved
loop-i-preserved c = rw (c.in_ok-push.ensures.items, c.from_number.ensures) (range_pushed c.args.pages.now.items c.loop-i.pages.items c.args.first c.loop-i.i c.loop-i.invariant)
