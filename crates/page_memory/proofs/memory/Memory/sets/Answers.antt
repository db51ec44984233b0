use Rattle.std.proofs.Common.{ap}
use Rattle.page_memory.specs.inner.Frames.{frame_in}
use Rattle.page_memory.proofs.Tables.{each-shown}
use Rattle.page_memory.proofs.Changes.{AreFrames-IsTable}
use Rattle.page_memory.proofs.memory.Memory.sets.Goals as goal

pub returns-clause-valid : goal.returns-clause-valid
returns-clause-valid c = record { each = each-shown (frame_in c.self.inside.frames.items) c.self.inside.table.places c.args.self.now.pages (ap (λ m. m.pages) c.self.view_is) (AreFrames-IsTable c.self.inside.frames.items c.self.inside.table.places c.self.invariant) }
