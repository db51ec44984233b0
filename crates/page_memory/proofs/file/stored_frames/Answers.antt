use Rattle.std.proofs.Common.{◌≤◌, ap, ◌∙◌, ◌++◌, sym, length, subst}
use Rattle.std.specs.BTreeMap.{IsOrdered}
use Rattle.std.specs.Ordering.{nat_cmp}
use Rattle.page_memory.specs.inner.InPlace.{AreInSlots}
use Rattle.page_memory.specs.inner.Frames.{frame_entries}
use Rattle.page_memory.proofs.Changes.{all_inside, AreInSlots-kept}
use Rattle.page_memory.proofs.Stored.{frame_entries-kept, kept_in, length-kept, none_left}
use Rattle.page_memory.proofs.file.stored_frames.Goals as goal

pub loop-p-init : goal.loop-p-init
loop-p-init c =
    let none = c.in_ok-reserve_exact.ensures.items ∙ c.new-stored.ensures.items in
    let given = c.into_iter-p-iterator.ensures.into_iter_gives ∙ c.iter-entries.ensures.rest ∙ ap (λ m. m.entries) c.places.ensures in
    let ordered = subst (IsOrdered nat_cmp) c.places.ensures c.iter-entries.ensures.ordered in
    record {
      inside = rw given (all_inside c.args.frames.now c.args.table.now.places ordered c.requires);
      kept = ap (λ es. es ++ kept_in c.args.frames.now c.into_iter-p-iterator.result) none ∙ ap (kept_in c.args.frames.now) given;
    }

pub returns-clause-stored : goal.returns-clause-stored
returns-clause-stored c =
    let all = none_left c.args.frames.now c.loop-p.stored.items c.loop-p.p-iterator c.args.table.now.places.entries c.in-None.ensures.steps.0 c.loop-p.invariant.kept in
    ap (frame_entries c.args.frames.now) all ∙ frame_entries-kept c.args.frames.now c.args.table.now.places.entries

pub returns-clause-slots : goal.returns-clause-slots
returns-clause-slots c =
    let all = none_left c.args.frames.now c.loop-p.stored.items c.loop-p.p-iterator c.args.table.now.places.entries c.in-None.ensures.steps.0 c.loop-p.invariant.kept in
    subst (AreInSlots c.args.frames.now) (sym all) (AreInSlots-kept c.args.frames.now c.args.table.now.places (subst (IsOrdered nat_cmp) c.places.ensures c.iter-entries.ensures.ordered) c.requires)

pub returns-clause-few : goal.returns-clause-few
returns-clause-few c =
    let all = none_left c.args.frames.now c.loop-p.stored.items c.loop-p.p-iterator c.args.table.now.places.entries c.in-None.ensures.steps.0 c.loop-p.invariant.kept in
    subst (λ es. length es ≤ length c.args.table.now.places.entries) (sym all) (length-kept c.args.frames.now c.args.table.now.places.entries)
