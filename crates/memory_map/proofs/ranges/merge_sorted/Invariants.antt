use Rattle.std.proofs.Common.{◌≡◌, ◌≤◌, ◌<◌, ℕ, length, take, get_or}
use Rattle.memory_map.specs.declared.row.Row.{Row}
use Rattle.memory_map.specs.inner.Rows.{covers, AreParts, StartUpTo}
use Rattle.memory_map.proofs.ranges.merge_sorted.Given as goal

abbrev pub invariant-loop-area : goal.invariant-loop-area
invariant-loop-area l = record {
  parts : AreParts 0 0 l.made.items;
  order : (k : ℕ) (d : Row) → l.area-index ≤ k → k < length l.areas → StartUpTo (get_or l.areas k d).start l.made.items;
  bytes : (q : ℕ) → covers q l.made.items ≡ covers q (take l.area-index l.areas);
}
