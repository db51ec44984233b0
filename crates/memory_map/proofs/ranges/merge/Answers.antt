use Rattle.std.proofs.Common.{rules, ap, ◌∙◌, ◌++◌}
use Rattle.std.proofs.lemmas.List.Sorted.{IsNonDecreasingBy-from_sort_by_key}
use Rattle.memory_map.proofs.Parts.{all_sorted, rising_as, bytes_of}
use Rattle.memory_map.proofs.ranges.merge.Goals as goal

pub merge_sorted-requires-clause-below : goal.merge_sorted-requires-clause-below
merge_sorted-requires-clause-below c = all_sorted c.args.areas.now _ _ _ c.requires (c.in_ok-extend_from_slice.ensures.items ∙ ap (λ y. y ++ c.args.areas.now) c.new-sorted.ensures.items) c.sort_unstable_by_key.ensures.permutation c.deref.ensures.value

pub merge_sorted-requires-clause-order : goal.merge_sorted-requires-clause-order
merge_sorted-requires-clause-order c = rising_as _ _ c.deref.ensures.value (IsNonDecreasingBy-from_sort_by_key (λ r. r.start) _ c.sort_unstable_by_key.ensures.sorted (λ a r f k. search rules))

pub returns-clause-bytes : goal.returns-clause-bytes
returns-clause-bytes c = bytes_of (λ v. v.items) c.merge_sorted.result c.args.areas.now _ _ _ (c.in_ok-extend_from_slice.ensures.items ∙ ap (λ y. y ++ c.args.areas.now) c.new-sorted.ensures.items) c.sort_unstable_by_key.ensures.permutation c.deref.ensures.value c.merge_sorted.ensures.bytes
