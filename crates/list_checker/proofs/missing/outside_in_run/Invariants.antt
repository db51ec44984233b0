use Rattle.std.proofs.Common.{◌≡◌, ◌-◌, ◌+◌}
use Rattle.std.specs.Prelude.{not}
use Rattle.std.specs.List.{find}
use Rattle.std.specs.Ordering.{nat_cmp}
use Rattle.std.specs.BTreeSet.{contains}
use Rattle.std.specs.List.{range_with_len}
use Rattle.list_checker.proofs.missing.outside_in_run.Given as goal

abbrev pub invariant-loop-n : goal.invariant-loop-n
invariant-loop-n l = find (λ p. not (contains nat_cmp l.set p)) (range_with_len l.n (l.first + l.count - l.n)) ≡ find (λ p. not (contains nat_cmp l.set p)) (range_with_len l.fn.run.first l.fn.run.count)
