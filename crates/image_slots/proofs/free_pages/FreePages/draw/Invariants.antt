use Rattle.std.proofs.Common.{◌≡◌, drop}
use Rattle.image_slots.proofs.free_pages.FreePages.draw.Given as goal

abbrev pub invariant-loop : goal.invariant-loop
invariant-loop l = l.self ≡ drop l.counter l.fn.self
