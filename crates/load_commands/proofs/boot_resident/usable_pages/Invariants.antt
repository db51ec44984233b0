use Rattle.std.proofs.Common.{◌≡◌, take}
use Rattle.page_pool.specs.Pages.{usable_of}
use Rattle.load_commands.proofs.boot_resident.usable_pages.Given as goal

abbrev pub invariant-loop-i : goal.invariant-loop-i
invariant-loop-i l = l.pages.items ≡ take l.i (usable_of l.pool)
