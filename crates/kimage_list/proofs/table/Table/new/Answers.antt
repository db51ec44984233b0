use Rattle.std.proofs.Common.{◌++◌, ◌∷◌, [], ◌∙◌, sym, ap, subst, arith, map, take}
use Rattle.kimage_list.specs.inner.Tables.{slot, AreRising, fresh_row}
use Rattle.kimage_list.proofs.Tables.{fresh_rising, fresh_slots, more_rows, all_rows}
use Rattle.kimage_list.proofs.table.Table.new.Goals as goal

pub loop-i-preserved : goal.loop-i-preserved
loop-i-preserved c =
    let w = c.args.wanted.now in
    c.in_ok-push.ensures.items ∙ ap (λ rs. rs ++ c.in_ok-row.row ∷ []) c.loop-i.invariant
    ∙ ap (λ r. map fresh_row (take c.loop-i.i w) ++ r ∷ []) c.in_ok-row.ensures
    ∙ more_rows w c.loop-i.i c.span.result c.span.ensures.value

pub invariant_of-result : goal.invariant_of-result
invariant_of-result c =
    let w = c.args.wanted.now in
    let all = all_rows w c.loop-i.rows.items c.loop-i.i c.loop-i.invariant (omega (arith, c.spans-i-end.ensures.value)) in
    subst (AreRising 0) (sym all) (fresh_rising 0 0 w (omega arith) c.spans.ensures.apart)

pub returns : goal.returns
returns c =
    let w = c.args.wanted.now in
    let all = all_rows w c.loop-i.rows.items c.loop-i.i c.loop-i.invariant (omega (arith, c.spans-i-end.ensures.value)) in
    (record { each = λ p. ap (λ rs. slot rs p) all ∙ fresh_slots w p }, c.spans.ensures.apart)
