use Rattle.std.proofs.Common.{[], ◌^◌, refl}
use Rattle.page_pool.proofs.Steps.{empty_pool, empty_marks}
use Rattle.page_pool.proofs.Left.{usable_undrawn}
use Rattle.page_pool.proofs.Queueing.{pages_at-none}
use Rattle.page_pool.proofs.Pool.empty.Goals as goal

pub invariant_of-result : goal.invariant_of-result
invariant_of-result c = rw (c.new.ensures.items, c.new-2.ensures.items, c.new-3.ensures.items) (empty_pool _ (2 ^ 46) c.new-4.ensures.empty)

pub returns-clause-value : goal.returns-clause-value
returns-clause-value c = rw (c.new.ensures.items, pages_at-none [], empty_marks c.new-4.result c.new-4.ensures.empty) refl

pub returns-clause-usable : goal.returns-clause-usable
returns-clause-usable c = rw (c.new.ensures.items, pages_at-none []) (usable_undrawn (2 ^ 46) [])
