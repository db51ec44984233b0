use Rattle.std.proofs.Common.{◌∙◌, ◌≡◌, Some, sym, subst}
use Rattle.std.specs.List.{AllByRecursion}
use Rattle.std.specs.Ordering.{nat_cmp}
use Rattle.std.specs.BTreeMap as tree
use Rattle.page_memory.specs.inner.Shortcuts.{AreInPlace, SayWhat}
use Rattle.page_memory.proofs.Changes.{all_found}
use Rattle.page_memory.proofs.Shortcuts.{none_alone, none_in_place, none_says, noted_again, noted_in_place}
use Rattle.page_memory.proofs.table.row_of.Goals as goal

pub loop-p-init : goal.loop-p-init
loop-p-init c =
    let m = c.args.places.now in
    let none = c.in_ok-row.ensures.items_if_clones_equal (none_alone _ (λ e h. h)) in
    let given = c.into_iter-p-iterator.ensures.into_iter_gives ∙ c.iter-entries.ensures.rest in
    record {
      left = rw given (all_found m c.iter-entries.ensures.ordered);
      in_place = none_in_place c.in_ok-row.row.items c.next_power_of_two.result none;
      say = none_says m c.in_ok-row.row.items c.next_power_of_two.result none;
    }

pub loop-p-preserved : goal.loop-p-preserved
loop-p-preserved c =
    let m = c.args.places.now in
    let row = c.loop-p.row.items in
    let left = subst (λ es. AllByRecursion (λ e. tree.get nat_cmp m e.0 ≡ Some e.1) es) c.in-Some.ensures.steps c.loop-p.invariant.left in
    record {
      left = left.1;
      in_place = subst AreInPlace (sym c.note.ensures) (noted_in_place row c.in-Some.p.now c.in-Some.place.now c.loop-p.invariant.in_place);
      say = subst (SayWhat m) (sym c.note.ensures) (noted_again m row c.in-Some.p.now c.in-Some.place.now c.loop-p.invariant.in_place c.loop-p.invariant.say left.0);
    }
