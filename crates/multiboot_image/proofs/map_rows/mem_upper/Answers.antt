use Rattle.std.proofs.Common.{sym, ◌∙◌}
use Rattle.multiboot_image.proofs.Joined.{no_row, upper_here, upper_none}
use Rattle.multiboot_image.proofs.map_rows.mem_upper.Goals as goal

pub returns-then-is_high : goal.returns-then-is_high
returns-then-is_high c = upper_here c.args.rows.now c.loop-row.row-index no_row c.kib.result c.loop-row-test.true (sym c.is_high.ensures ∙ c.if-is_high.true) c.loop-row.invariant c.kib.ensures

pub returns : goal.returns
returns c = upper_none c.args.rows.now c.loop-row.row-index c.loop-row-test.false c.loop-row.invariant
