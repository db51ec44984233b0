use Rattle.std.proofs.Common.{◌≡◌, ◌≤◌, ℕ, ◌+◌, ◌*◌, ◌-◌, drop, take, length, None}
use Rattle.std.specs.Ordering.{nat_cmp}
use Rattle.std.specs.BTreeMap as tree
use Rattle.page_memory.specs.inner.Frames.{pages_in, IsTable}
use Rattle.page_memory.specs.File.{pages_onto}
use Rattle.std.specs.FinMap as finite
use Rattle.page_memory.proofs.file.table_of.Given as goal

abbrev pub invariant-loop-i : goal.invariant-loop-i
invariant-loop-i l = record {
  table : IsTable (take (16 + 4104 * l.i) l.bytes) l.places;
  new : (q : ℕ) → l.low ≤ q → tree.get nat_cmp l.places q ≡ None;
  count : length l.places.entries ≡ l.i;
  room : 16 + 4104 * l.i ≤ length l.bytes;
  rest : l.rest ≡ drop (16 + 4104 * l.i) l.bytes;
  same : pages_onto (length l.bytes) (16 + 4104 * l.i) l.low (pages_in (take (16 + 4104 * l.i) l.bytes) l.places) (l.count - l.i) l.rest ≡ pages_onto (length l.bytes) 16 0 finite.empty l.count (drop 8 (drop 8 l.bytes));
}
