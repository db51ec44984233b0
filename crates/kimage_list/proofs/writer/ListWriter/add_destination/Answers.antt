use Rattle.std.proofs.Common.{◌-◌, Some, sym, subst, ap, refl}
use Rattle.kimage_list.specs.inner.Writers.{StandsAt, with_destination, draft_of}
use Rattle.kimage_list.specs.inner.Calls.{writer_of}
use Rattle.kimage_list.proofs.MakingRoom.{start_room, start_added}
use Rattle.kimage_list.proofs.writer.ListWriter.add_destination.Goals as goal

pub add_start-requires : goal.add_start-requires
add_start-requires c =
    let h = c.self.invariant.0 in
    let s = c.self.invariant.1 in
    let r = start_room h (writer_of c.self.inside) s (rw (← c.self.view_is) at c.requires) in
    (draft_of h s.loading s.inside.first s.inside.links, draft_of h r.then s.inside.first r.more, s.inside.writes, r.room)

pub invariant_of-self : goal.invariant_of-self
invariant_of-self c =
    let h = c.self.invariant.0 in
    let s = c.self.invariant.1 in
    let n = rw (← c.self.view_is) at c.requires in
    let r = start_room h (writer_of c.self.inside) s n in
    let d = draft_of h s.loading s.inside.first s.inside.links in
    let e = draft_of h r.then s.inside.first r.more in
    let k = c.add_start.ensures.written d e s.inside.writes r.room in (
      with_destination h c.args.d,
      start_added h (writer_of c.self.inside) (writer_of (record { list = c.add_start.new.self; control = c.self.inside.control; mode = c.self.inside.mode; segments_left = c.self.inside.segments_left - 1; destination = Some c.number.result })) s c.args.d r k.0 k.1
          (c.add_start.ensures.head d e s.inside.writes r.room s.inside.head) refl refl n refl (ap (λ x. Some x) c.number.ensures.value),
    )

pub returns-clause-stands : goal.returns-clause-stands
returns-clause-stands c = λ h t.
    let s = subst (StandsAt h) (sym c.self.view_is) t in
    let n = rw (← c.self.view_is) at c.requires in
    let r = start_room h (writer_of c.self.inside) s n in
    let d = draft_of h s.loading s.inside.first s.inside.links in
    let e = draft_of h r.then s.inside.first r.more in
    let k = c.add_start.ensures.written d e s.inside.writes r.room in
    start_added h (writer_of c.self.inside) (writer_of (record { list = c.add_start.new.self; control = c.self.inside.control; mode = c.self.inside.mode; segments_left = c.self.inside.segments_left - 1; destination = Some c.number.result })) s c.args.d r k.0 k.1
    (c.add_start.ensures.head d e s.inside.writes r.room s.inside.head) refl refl n refl (ap (λ x. Some x) c.number.ensures.value)
