use Rattle.std.proofs.Common.{◌≡◌, ◌++◌, take}
use Rattle.std.specs.Prelude.{filter, not}
use Rattle.memory_map.specs.Rows.{is_ram_row}
use Rattle.memory_map.specs.inner.Rows.{AreBelow}
use Rattle.memory_map.proofs.ranges.push_other_rows.Given as goal

abbrev pub invariant-loop-row : goal.invariant-loop-row
invariant-loop-row l = record {
  below : AreBelow l.out.items;
  items : l.out.items ≡ l.initial.out.items ++ filter (λ r. not (is_ram_row r)) (take l.row-index l.rows);
}
