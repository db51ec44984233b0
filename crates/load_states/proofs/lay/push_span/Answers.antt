use Rattle.load_states.proofs.lay.push_span.Goals as goal
use Rattle.kx_laws.proofs.Lists.{range_pushed}

pub loop-i-preserved : goal.loop-i-preserved
loop-i-preserved c = rw (c.in_ok-push.ensures.items, c.from_number.ensures, c.first.ensures.value) (range_pushed c.args.pages.now.items c.loop-i.pages.items c.args.span.first c.loop-i.i c.loop-i.invariant)
