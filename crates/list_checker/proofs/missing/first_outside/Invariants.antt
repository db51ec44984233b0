use Rattle.std.proofs.Common.{◌≡◌, drop}
use Rattle.std.specs.List.{find}
use Rattle.segments.specs.Values.{pages}
use Rattle.std.specs.Prelude.{not}
use Rattle.std.specs.Ordering.{nat_cmp}
use Rattle.std.specs.BTreeSet.{contains}
use Rattle.list_checker.proofs.missing.first_outside.Given as goal

abbrev pub invariant-loop-i : goal.invariant-loop-i
invariant-loop-i l = find (λ p. not (contains nat_cmp l.set p)) (pages (drop l.i l.segments)) ≡ find (λ p. not (contains nat_cmp l.set p)) (pages l.segments)
