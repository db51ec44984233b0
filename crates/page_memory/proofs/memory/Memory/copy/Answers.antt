use Rattle.std.proofs.Common.{ap}
use Rattle.page_memory.proofs.Laws.{held-insert}
use Rattle.page_memory.proofs.memory.Memory.copy.Goals as goal

pub returns-clause-stay : goal.returns-clause-stay
returns-clause-stay c = λ q h. rw c.copy_frame.ensures.value (held-insert _ _ _ q (rw (ap (λ m. m.pages) c.self.view_is) h))
