use Rattle.std.proofs.Common.{◌≡◌, Some, None, get_or, sym, ap, ◌∙◌}
use Rattle.std.specs.Ordering.{nat_cmp}
use Rattle.std.specs.BTreeMap as tree
use Rattle.std.proofs.lemmas.Bool.{eqb-true}
use Rattle.page_memory.proofs.table.Table.shortcut.Goals as goal

pub returns-in-Some-Some : goal.returns-in-Some-Some
returns-in-Some-Some c =
    let table = c.args.self.now in
    let k = c.place_in_row.result in
    let page = c.in-Some-Some.page in
    let noted : get_or table.shortcuts.items k None ≡ Some (page, c.in-Some-Some.place) = ap (λ row. get_or row k None) (sym c.deref.ensures.value) ∙ sym (c.in-Some-Some.ensures.lookup.3.1 None) ∙ c.in-Some-Some.field-0-is in
    let same : page ≡ c.args.p = eqb-true page c.args.p (sym c.if-eq.ensures) in
    ap (tree.get nat_cmp table.places) (sym same) ∙ table.as_the_map k page c.in-Some-Some.place noted
