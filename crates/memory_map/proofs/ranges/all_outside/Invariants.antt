use Rattle.std.proofs.Common.{◌≡◌, ℕ, List, take}
use Rattle.memory_map.specs.declared.row.Row.{Row}
use Rattle.memory_map.specs.inner.Rows.{covers, AreBelow}
use Rattle.memory_map.specs.Maps.{outside}
use Rattle.memory_map.proofs.ranges.all_outside.Given as goal

abbrev pub invariant-loop-row : goal.invariant-loop-row
invariant-loop-row l = record {
  below : AreBelow l.out.items;
  items : (all : List Row) → ((q : ℕ) → covers q all ≡ covers q l.areas) → l.out.items ≡ outside all (take l.row-index l.rows);
}
