use Rattle.sample_load.proofs.Rising.{only_memory}
use Rattle.sample_load.proofs.drawn_segments.sample_segments.Goals as goal

pub unreachable-requires : goal.unreachable-requires
unreachable-requires c = c.in_default.not-Memory (only_memory c.args.number c.in_ok-list.list.items c.in-Err.fault c.in_ok-list.ensures c.in-Err.ensures)
