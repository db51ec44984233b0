use Rattle.std.proofs.Common.{sym, ◌∙◌}
use Rattle.multiboot_image.proofs.Joined.{no_row, lower_here, lower_none}
use Rattle.multiboot_image.proofs.map_rows.mem_lower.Goals as goal

pub returns-then-is_low : goal.returns-then-is_low
returns-then-is_low c = lower_here c.args.rows.now c.loop-row.row-index no_row c.kib.result c.loop-row-test.true (sym c.is_low.ensures ∙ c.if-is_low.true) c.loop-row.invariant c.kib.ensures

pub returns : goal.returns
returns c = lower_none c.args.rows.now c.loop-row.row-index c.loop-row-test.false c.loop-row.invariant
