use Rattle.std.proofs.Common.{leb, rules}
use Rattle.std.proofs.lemmas.Bool.{leb-true, leb-false}
use Rattle.std.proofs.lemmas.List.Sorted.{IsPartitionPoint-from_clause, IsPartitionedBy-leb}
use Rattle.kimage_list.specs.inner.Tables.{row_end}
use Rattle.kimage_list.proofs.Tables.{ends_rise}
use Rattle.kimage_list.proofs.table.row_of.Goals as goal

pub returns : goal.returns
returns c =
    let p = IsPartitionPoint-from_clause (λ y. leb (row_end y) c.args.p) c.args.rows.now c.partition_point.result c.partition_point.ensures.partitioned (IsPartitionedBy-leb row_end c.args.rows.now c.args.p (ends_rise 0 c.args.rows.now c.requires)) (λ a r f k. search rules) in
    (λ k d l h. leb-true _ _ (p.0 k d l h), λ k d l h. leb-false _ _ (p.1 k d l h))
