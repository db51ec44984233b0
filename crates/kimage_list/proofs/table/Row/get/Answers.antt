use Rattle.std.proofs.Common.{◌-◌, ◌≤◌, ◌<◌, ◌∙◌, sym, ap, arith}
use Rattle.std.specs.List.{slice_get}
use Rattle.kimage_list.specs.inner.Tables.{SlotRow}
use Rattle.kimage_list.proofs.Tables.{one_before, one_from, copied_from}
use Rattle.kimage_list.proofs.table.Row.get.Goals as goal

pub returns-in_err-place : goal.returns-in_err-place
returns-in_err-place c =
    let r : SlotRow = record { first = c.self.inside.first; slots = c.self.inside.slots.items } in
    let below : c.args.p < c.self.inside.first = omega (arith, c.in_err-place.ensures, c.number.ensures.value) in
    rw (← c.self.view_is) (c.from_residual.ensures ∙ sym (one_before r c.args.p below))

pub returns : goal.returns
returns c =
    let r : SlotRow = record { first = c.self.inside.first; slots = c.self.inside.slots.items } in
    let place = c.in_ok-place.ensures.1 ∙ ap (λ n. n - c.self.inside.first) c.number.ensures.value in
    let from : c.self.inside.first ≤ c.args.p = omega (arith, c.in_ok-place.ensures.0, c.number.ensures.value) in
    rw (← c.self.view_is) (c.copied.ensures
    ∙ copied_from c.deref.result.now c.in_ok-place.place c.get.result c.get.ensures.lookup.0 c.get.ensures.lookup.1
    ∙ ap (λ xs. slice_get xs c.in_ok-place.place) c.deref.ensures.value
    ∙ ap (λ k. slice_get c.self.inside.slots.items k) place
    ∙ sym (one_from r c.args.p from))
