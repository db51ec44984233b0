use Rattle.std.proofs.Common.{leb, rules, arith}
use Rattle.std.proofs.lemmas.Bool.{leb-true}
use Rattle.std.proofs.lemmas.List.Sorted.{IsPartitionPoint-from_clause, IsPartitionedBy-leb}
use Rattle.memory_map.proofs.Parts.{starts_rise, walk_near}
use Rattle.memory_map.proofs.ranges.first_near.Goals as goal

pub returns : goal.returns
returns c = λ e k.
    let p = IsPartitionPoint-from_clause (λ y. leb y.start c.args.start) c.args.areas.now c.partition_point.result c.partition_point.ensures.partitioned (IsPartitionedBy-leb (λ r. r.start) c.args.areas.now c.args.start (starts_rise 0 0 c.args.areas.now c.requires)) (λ a r f m. search rules) in
    walk_near 0 c.args.start e k c.args.areas.now c.partition_point.result _ c.requires c.partition_point.ensures.bound c.saturating_sub.ensures (λ j d h. leb-true _ _ (p.0 j d (omega arith) h))
