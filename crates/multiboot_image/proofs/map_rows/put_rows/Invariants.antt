use Rattle.std.proofs.Common.{◌≡◌, ◌++◌, take}
use Rattle.multiboot_image.specs.MapRows.{map_text}
use Rattle.multiboot_image.proofs.map_rows.put_rows.Given as goal

abbrev pub invariant-loop-row : goal.invariant-loop-row
invariant-loop-row l = l.out.items ≡ l.fn.out.items ++ map_text (take l.row-index l.rows)
