use Rattle.std.proofs.Common.{rules}
use Rattle.std.proofs.lemmas.List.Sorted.{answers_always, IsNonDecreasingBy-from_sort}
use Rattle.memory_map.specs.declared.row.Row.{Row}
use Rattle.crash_headers.proofs.ranges.by_starts.Goals as goal

pub returns-clause-sorted : goal.returns-clause-sorted
returns-clause-sorted c =
    IsNonDecreasingBy-from_sort (λ (r : Row). r.start) _ (c.sort_unstable_by_key.ensures.sorted (λ (r : Row). r.start) (answers_always _ _ _ (λ f a r g h. search rules)))
