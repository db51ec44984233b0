use Rattle.std.proofs.Common.{◌∙◌, ◌<◌, ◌≤◌, length, get_or, sym, ap, arith}
use Rattle.kimage_list.proofs.Tables.{found_from, row_at, no_row_at}
use Rattle.kimage_list.proofs.table.Table.get.Goals as goal

pub returns-in-Some : goal.returns-in-Some
returns-in-Some c =
    let rows = c.self.inside.rows.items in
    let i = c.row_of.result in
    let inside : i < length rows = omega (arith, ap length c.deref.ensures.value, c.in-Some.ensures.lookup.3.0) in
    let is = c.in-Some.ensures.lookup.1 ∙ ap (λ rs. get_or rs i c.in-Some.row.now) c.deref.ensures.value in
    let found = found_from rows c.deref-2.result.now c.args.p i c.deref-2.ensures.value c.row_of.ensures in
    rw (← c.self.view_is) (c.get-in-Some.ensures ∙ sym (row_at rows c.args.p i c.in-Some.row.now c.self.invariant found inside is))

pub returns-in-None : goal.returns-in-None
returns-in-None c =
    let rows = c.self.inside.rows.items in
    let i = c.row_of.result in
    let past : length rows ≤ i = omega (arith, ap length c.deref.ensures.value, c.in-None.ensures.lookup.3) in
    let found = found_from rows c.deref-2.result.now c.args.p i c.deref-2.ensures.value c.row_of.ensures in
    rw (← c.self.view_is) (sym (no_row_at rows c.args.p i c.self.invariant found past))
