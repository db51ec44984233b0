use Rattle.std.proofs.Common.{length}
use Rattle.page_pool.specs.Pages.{usable_of}
use Rattle.kimage_list.proofs.taking.draw_page.Given as goal
use Rattle.kimage_list.proofs.Drawing.{Draws}

abbrev pub invariant-loop-q : goal.invariant-loop-q
invariant-loop-q l = Draws l.wanted l.initial.pool l.initial.table l.pool l.table

abbrev pub decreases-loop-q : goal.decreases-loop-q
decreases-loop-q l = length (usable_of l.pool)
