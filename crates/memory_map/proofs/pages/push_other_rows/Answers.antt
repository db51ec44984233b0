use Rattle.std.proofs.Common.{Bool, ◌&&◌, not, arith}
use Rattle.memory_map.specs.declared.row.Row.{Row}
use Rattle.memory_map.specs.Rows.{is_ram_row, meets_page}
use Rattle.memory_map.proofs.PageLemmas.{turn}
use Rattle.memory_map.proofs.pages.push_other_rows.Goals as goal

pub loop-row-preserved : goal.loop-row-preserved
loop-row-preserved c = λ p.
    let t : Row → Bool = λ r. not (is_ram_row r) && meets_page p r in
    turn t c.args.rows.now c.loop-row.row-index _ _ _ _ (omega arith) (c.in_ok-push_other.ensures p) (c.loop-row.invariant p)
