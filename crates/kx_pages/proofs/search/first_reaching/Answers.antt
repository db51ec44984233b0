use Rattle.std.proofs.Common.{leb, rules, ◌∙◌, arith}
use Rattle.std.proofs.lemmas.Bool.{leb-true, leb-false}
use Rattle.std.proofs.lemmas.List.Sorted.{IsPartitionPoint-from_clause, IsPartitionedBy-leb}
use Rattle.kx_pages.specs.Spans.{end}
use Rattle.kx_pages.proofs.Reaching.{ends_rise, reaching_at}
use Rattle.kx_pages.proofs.search.first_reaching.Goals as goal

pub returns : goal.returns
returns c =
    let p = IsPartitionPoint-from_clause (λ y. leb (end y) c.args.number) c.args.spans.now c.partition_point-i.result c.partition_point-i.ensures.partitioned (IsPartitionedBy-leb end c.args.spans.now c.args.number (ends_rise 0 c.args.spans.now c.requires)) (λ a r f k. search rules) in
    c.span_at.ensures ∙ reaching_at c.args.spans.now c.args.number c.partition_point-i.result (λ k d h. leb-true _ _ (p.0 k d (omega arith) h)) (λ d h. leb-false _ _ (p.1 c.partition_point-i.result d (omega arith) h))
