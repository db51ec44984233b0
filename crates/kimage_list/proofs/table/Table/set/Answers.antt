use Rattle.std.proofs.Common.{◌<◌, length, ap, arith, Some}
use Rattle.kimage_list.proofs.Tables.{Found, Changes, found_from, has_row, is_in_row, still_rising, changed_here, changed_others}
use Rattle.kimage_list.proofs.table.Table.set.Goals as goal

pub index_mut-requires : goal.index_mut-requires
index_mut-requires c =
    let rows = c.self.inside.rows.items in
    let wanted = rw (← c.self.view_is) at c.requires in
    let at = found_from rows c.deref.result.now c.args.d c.row_of-i.result c.deref.ensures.value c.row_of-i.ensures in
    let inside : c.row_of-i.result < length rows = has_row rows c.args.d c.row_of-i.result c.self.invariant at wanted in
    omega (arith, inside, ap length c.deref.ensures.value, c.deref.ensures.len)

pub set-requires : goal.set-requires
set-requires c =
    let rows = c.self.inside.rows.items in
    let wanted = rw (← c.self.view_is) at c.requires in
    let at = found_from rows c.deref.result.now c.args.d c.row_of-i.result c.deref.ensures.value c.row_of-i.ensures in
    is_in_row rows c.args.d c.row_of-i.result c.index_mut.result.now c.self.invariant at wanted c.index_mut.ensures.value

found : (c : goal.After-self-1) → Found c.self.inside.rows.items c.args.d c.row_of-i.result
found c = found_from c.self.inside.rows.items c.deref.result.now c.args.d c.row_of-i.result c.deref.ensures.value c.row_of-i.ensures

inside : (c : goal.After-self-1) → c.row_of-i.result < length c.self.inside.rows.items
inside c = has_row c.self.inside.rows.items c.args.d c.row_of-i.result c.self.invariant (found c) (rw (← c.self.view_is) at c.requires)

changes : (c : goal.After-self-1) → Changes c.index_mut.result.now c.set.new.self c.args.d (Some c.args.loaded)
changes c = record {
  inside = is_in_row c.self.inside.rows.items c.args.d c.row_of-i.result c.index_mut.result.now c.self.invariant (found c) (rw (← c.self.view_is) at c.requires) c.index_mut.ensures.value;
  first = c.set.ensures.first;
  slots = c.set.ensures.slots;
}

pub invariant_of-self : goal.invariant_of-self
invariant_of-self c =
    still_rising 0 c.self.inside.rows.items c.row_of-i.result c.index_mut.result.now c.set.new.self c.args.d (Some c.args.loaded) c.self.invariant (inside c) c.index_mut.ensures.value (changes c)

pub returns-clause-here : goal.returns-clause-here
returns-clause-here c =
    changed_here c.self.inside.rows.items c.row_of-i.result c.index_mut.result.now c.set.new.self c.args.d (Some c.args.loaded) (found c).low (inside c) (changes c)

pub returns-clause-others : goal.returns-clause-others
returns-clause-others c = λ p ne.
    rw (← c.self.view_is) (changed_others c.self.inside.rows.items c.row_of-i.result c.index_mut.result.now c.set.new.self c.args.d p (Some c.args.loaded) (inside c) c.index_mut.ensures.value (changes c) ne)
