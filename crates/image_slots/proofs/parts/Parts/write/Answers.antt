use Rattle.image_slots.specs.inner.Views.{state_in}
use Rattle.image_slots.proofs.Moves.{left_distinct}
use Rattle.image_slots.proofs.parts.Parts.write.Goals as goal

pub write_load-requires-clause-once : goal.write_load-requires-clause-once
write_load-requires-clause-once c = left_distinct (state_in c.args.self.now) c.requires
