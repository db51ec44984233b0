use Rattle.std.proofs.Common.{◌≡◌, take}
use Rattle.std.specs.Prelude.{filter}
use Rattle.memory_map.specs.Rows.{is_ram_row}
use Rattle.memory_map.specs.inner.Rows.{AreBelow, HaveBytes}
use Rattle.memory_map.proofs.ranges.ram_rows.Given as goal

abbrev pub invariant-loop-row : goal.invariant-loop-row
invariant-loop-row l = record {
  below : AreBelow l.ram.items;
  some : HaveBytes l.ram.items;
  items : l.ram.items ≡ filter is_ram_row (take l.row-index l.rows);
}
