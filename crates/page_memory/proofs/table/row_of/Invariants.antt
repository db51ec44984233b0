use Rattle.std.proofs.Common.{◌≡◌, Some}
use Rattle.std.specs.List.{AllByRecursion}
use Rattle.std.specs.Ordering.{nat_cmp}
use Rattle.std.specs.BTreeMap as tree
use Rattle.page_memory.specs.inner.Shortcuts.{AreInPlace, SayWhat}
use Rattle.page_memory.proofs.table.row_of.Given as goal

abbrev pub invariant-loop-p : goal.invariant-loop-p
invariant-loop-p l = record {
  left : AllByRecursion (λ e. tree.get nat_cmp l.places e.0 ≡ Some e.1) l.p-iterator;
  in_place : AreInPlace l.row.items;
  say : SayWhat l.places l.row.items;
}
