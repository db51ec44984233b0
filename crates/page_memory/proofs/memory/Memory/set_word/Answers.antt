use Rattle.std.proofs.Common.{ap}
use Rattle.page_memory.proofs.Laws.{held-insert}
use Rattle.page_memory.proofs.memory.Memory.set_word.Goals as goal

pub returns-clause-stay : goal.returns-clause-stay
returns-clause-stay c = λ q h. rw c.write_word.ensures.value (held-insert _ _ _ q (rw (ap (λ m. m.pages) c.self.view_is) h))
