use Rattle.std.proofs.Common.{◌≡◌, take}
use Rattle.image_slots.proofs.free_pages.FreePages.first.Given as goal

abbrev pub invariant-loop-i : goal.invariant-loop-i
invariant-loop-i l = l.pages.items ≡ take l.i l.self
