use Rattle.std.proofs.Common.{◌≡◌, ◌+◌, ◌*◌, ◌^◌, ◌≤◌, length, drop}
use Rattle.segments.specs.Values.{pages}
use Rattle.segments.proofs.rules.total.Given as goal

abbrev pub invariant-loop-s : goal.invariant-loop-s
invariant-loop-s l = record {
  small : l.total ≤ 2 ^ 52 * l.s-index;
  sum : l.total + length (pages (drop l.s-index l.list)) ≡ length (pages l.list);
}
