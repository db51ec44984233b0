use Rattle.std.proofs.Common.{subst}
use Rattle.crash_headers.specs.inner.Ranges.{HoldSameNotes}
use Rattle.crash_headers.proofs.Order.{same_sorted}
use Rattle.crash_headers.proofs.ranges.rising.Goals as goal

pub returns-clause-notes : goal.returns-clause-notes
returns-clause-notes c =
    same_sorted c.in_ok-outer.outer.items c.in_ok-sorted.sorted.items c.args.ranges.now (subst (HoldSameNotes c.in_ok-outer.outer.items) c.deref.ensures.value c.in_ok-outer.ensures.notes) c.in_ok-sorted.ensures.same
