use Rattle.std.proofs.Common.{leb, rules, sym, ◌∙◌, arith}
use Rattle.std.proofs.lemmas.Bool.{leb-true, leb-false}
use Rattle.std.proofs.lemmas.List.Sorted.{IsPartitionPoint-from_clause, IsPartitionedBy-leb}
use Rattle.memory_map.specs.declared.row.Row.{Row}
use Rattle.crash_headers.proofs.Rows.{no_row}
use Rattle.crash_headers.proofs.Order.{found_none, found_last}
use Rattle.crash_headers.proofs.note.Note.lies_in_one.Goals as goal

pub returns-in-Some : goal.returns-in-Some
returns-in-Some c =
    let p = IsPartitionPoint-from_clause (λ (y : Row). leb y.start c.args.self.start) c.args.rising.now c.partition_point-count.result c.partition_point-count.ensures.partitioned (IsPartitionedBy-leb (λ (r : Row). r.start) c.args.rising.now c.args.self.start c.requires.starts) (λ a r f k. search rules) in
    c.lies_in.ensures
    ∙ sym (found_last c.args.rising.now c.args.self c.in-Some.last no_row c.requires (omega arith) (leb-true _ _ (p.0 c.in-Some.last no_row (omega arith) (omega arith))) (λ k e h l. leb-false _ _ (p.1 k e (omega arith) l)))

pub returns-in-None : goal.returns-in-None
returns-in-None c =
    let p = IsPartitionPoint-from_clause (λ (y : Row). leb y.start c.args.self.start) c.args.rising.now c.partition_point-count.result c.partition_point-count.ensures.partitioned (IsPartitionedBy-leb (λ (r : Row). r.start) c.args.rising.now c.args.self.start c.requires.starts) (λ a r f k. search rules) in
    sym (found_none c.args.rising.now c.args.self (λ k e l. leb-false _ _ (p.1 k e (omega arith) l)))
