use Rattle.std.proofs.Common.{◌≡◌, ◌≤◌, ◌+◌}
use Rattle.kimage_list.specs.inner.Held.{HoldSame}
use Rattle.kimage_list.specs.Tracking.{whole_pool}
use Rattle.load_states.proofs.Going.{Goes}
use Rattle.load_states.proofs.filling.fill_segment.Given as goal

abbrev pub invariant-loop-number : goal.invariant-loop-number
invariant-loop-number l = (l.first ≤ l.number) × (l.number ≤ l.first + l.count) × Goes l.segments l.i l.first l.number l.fn.writer l.writer × (whole_pool l.writer.pool ≡ whole_pool l.fn.writer.pool) × HoldSame l.writer.memory l.fn.writer.memory
