use Rattle.std.proofs.Common.{◌≡◌, ℕ, take}
use Rattle.std.specs.Ordering.{nat_cmp}
use Rattle.std.specs.BTreeSet.{contains}
use Rattle.kx_pages.specs.Lists.{has}
use Rattle.image_slots.proofs.drawn.set_of.Given as goal

abbrev pub invariant-loop-page : goal.invariant-loop-page
invariant-loop-page l = (q : ℕ) → contains nat_cmp l.set q ≡ has q (take l.page-index l.list)
