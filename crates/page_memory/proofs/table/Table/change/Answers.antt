use Rattle.std.proofs.Common.{subst, sym}
use Rattle.page_memory.specs.inner.Shortcuts.{AreInPlace, SayWhat}
use Rattle.page_memory.proofs.Shortcuts.{noted_in_place, noted_says}
use Rattle.page_memory.proofs.table.Table.change.Goals as goal

pub invariant_of-self : goal.invariant_of-self
invariant_of-self c =
    let old = c.args.self.now in
    record {
      in_their_places = subst AreInPlace (sym c.note.ensures) (noted_in_place old.shortcuts.items c.args.p c.args.place old.in_their_places);
      as_the_map = subst (SayWhat c.change_entry.new.places) (sym c.note.ensures) (noted_says old.places c.change_entry.new.places old.shortcuts.items c.args.p c.args.place old.in_their_places old.as_the_map c.change_entry.ensures.differs);
    }
