use Rattle.std.proofs.Common.{subst, sym}
use Rattle.page_memory.specs.inner.Frames.{Differs}
use Rattle.page_memory.specs.inner.Shortcuts.{AreInPlace, SayWhat}
use Rattle.page_memory.proofs.Shortcuts.{noted_in_place, noted_says}
use Rattle.page_memory.proofs.table.Table.insert.Goals as goal

pub invariant_of-self-2 : goal.invariant_of-self-2
invariant_of-self-2 c =
    let old = c.args.self.now in
    record {
      in_their_places = subst AreInPlace (sym c.note.ensures) (noted_in_place old.shortcuts.items c.args.p c.args.place old.in_their_places);
      as_the_map = subst (SayWhat c.insert.new.self) (sym c.note.ensures) (noted_says old.places c.insert.new.self old.shortcuts.items c.args.p c.args.place old.in_their_places old.as_the_map c.in_ok-insert.ensures.updates.0);
    }

pub returns-clause-differs : goal.returns-clause-differs
returns-clause-differs c = subst (λ m. Differs c.args.self.now.places m c.args.p c.args.place) (sym c.lengthen.ensures) c.in_ok-insert.ensures.updates.0
