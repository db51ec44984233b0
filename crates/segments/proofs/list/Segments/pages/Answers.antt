use Rattle.std.proofs.Common.{arith, length, ap}
use Rattle.segments.specs.Values.{pages}
use Rattle.segments.proofs.Laws.{AreSegments-from_IsBare}
use Rattle.segments.proofs.list.Segments.pages.Goals as goal

pub total-requires : goal.total-requires
total-requires c =
    let s = AreSegments-from_IsBare c.self.inside.list.items c.self.invariant.bare in
    let e = ap length c.deref.ensures.value in
    omega (arith, s.few, e)

pub returns-clause-small : goal.returns-clause-small
returns-clause-small c =
    let s = AreSegments-from_IsBare c.self.inside.list.items c.self.invariant.bare in
    let e = ap (λ xs. length (pages xs)) c.deref.ensures.value in
    omega (arith, s.small, e, c.total.ensures)
