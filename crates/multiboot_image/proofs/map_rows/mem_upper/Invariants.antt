use Rattle.std.proofs.Common.{◌≡◌, drop}
use Rattle.std.specs.List.{find}
use Rattle.multiboot_image.specs.MapRows.{is_high}
use Rattle.multiboot_image.proofs.map_rows.mem_upper.Given as goal

abbrev pub invariant-loop-row : goal.invariant-loop-row
invariant-loop-row l = find is_high (drop l.row-index l.rows) ≡ find is_high l.rows
