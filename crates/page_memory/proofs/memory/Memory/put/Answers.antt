use Rattle.std.proofs.Common.{ap}
use Rattle.std.specs.Prelude.{is_some}
use Rattle.page_memory.specs.inner.Frames.{frame_in}
use Rattle.page_memory.proofs.Tables.{none_held, some_held}
use Rattle.page_memory.proofs.memory.Memory.put.Goals as goal

pub write_frame-requires-clause-held : goal.write_frame-requires-clause-held
write_frame-requires-clause-held c = ap is_some (some_held (frame_in c.self.inside.frames.items) c.self.inside.table.places c.args.p c.in-Some.field-0 c.in-Some.ensures.value)

pub add_frame-requires-clause-absent : goal.add_frame-requires-clause-absent
add_frame-requires-clause-absent c = none_held (frame_in c.self.inside.frames.items) c.self.inside.table.places c.args.p c.in-None.ensures.value
