use Rattle.std.proofs.Common.{Bool, false, ◌&&◌, arith}
use Rattle.memory_map.specs.declared.row.Row.{Row}
use Rattle.memory_map.specs.Rows.{is_ram_row, holds_page}
use Rattle.memory_map.proofs.PageLemmas.{turn}
use Rattle.memory_map.proofs.pages.whole_spans.Goals as goal

pub loop-row-preserved : goal.loop-row-preserved
loop-row-preserved c = λ p.
    let t : Row → Bool = λ r. is_ram_row r && holds_page p r in
    turn t c.args.rows.now c.loop-row.row-index _ false _ _ (omega arith) (c.in_ok-push_whole.ensures p) (c.loop-row.invariant p)
