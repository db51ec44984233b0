use Rattle.std.proofs.Common.{Bool, arith}
use Rattle.memory_map.specs.declared.row.Row.{Row}
use Rattle.memory_map.specs.Rows.{meets_page}
use Rattle.memory_map.proofs.PageLemmas.{turn}
use Rattle.memory_map.proofs.pages.push_areas.Goals as goal

pub loop-area-preserved : goal.loop-area-preserved
loop-area-preserved c = λ p.
    let t : Row → Bool = λ r. meets_page p r in
    turn t c.args.areas.now c.loop-area.area-index _ _ _ _ (omega arith) (c.in_ok-push_met.ensures p) (c.loop-area.invariant p)
