use Rattle.std.proofs.Common.{◌≡◌, ◌++◌, ◌-◌, length, drop}
use Rattle.memory_map.specs.Rows.{row_end}
use Rattle.memory_map.specs.inner.Rows.{AreBelow}
use Rattle.memory_map.specs.inner.Walk.{walk}
use Rattle.memory_map.proofs.ranges.push_outside.Given as goal

abbrev pub invariant-loop-area : goal.invariant-loop-area
invariant-loop-area l = record {
  below : AreBelow l.out.items;
  same : l.out.items ++ walk l.at (row_end l.row) l.row.kind (drop l.i l.areas) ≡ l.initial.out.items ++ walk l.row.start (row_end l.row) l.row.kind l.areas;
}

abbrev pub decreases-loop-area : goal.decreases-loop-area
decreases-loop-area l = length l.areas - l.i
