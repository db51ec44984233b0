use Rattle.std.proofs.Common.{◌≡◌, take}
use Rattle.page_pool.specs.Pages.{usable_of}
use Rattle.kimage_list.proofs.begin.first_in_order.Given as goal

abbrev pub invariant-loop-i : goal.invariant-loop-i
invariant-loop-i l = l.pages.items ≡ take l.i (usable_of l.pool)
