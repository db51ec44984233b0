use Rattle.std.proofs.Common.{◌≡◌, take, map}
use Rattle.kimage_list.specs.inner.Tables.{fresh_row}
use Rattle.kimage_list.proofs.table.Table.new.Given as goal

abbrev pub invariant-loop-i : goal.invariant-loop-i
invariant-loop-i l = l.rows.items ≡ map fresh_row (take l.i l.wanted)
