use Rattle.std.proofs.Common.{sym, subst}
use Rattle.load_states.specs.Fillings.{IsSealed}
use Rattle.load_states.specs.inner.Fillings.{Fill, FillsFrom}
use Rattle.load_states.proofs.Sealing.{none_to_start, none_awaited, sealed}
use Rattle.load_states.proofs.filling.Filling.seal.Goals as goal

pub finish-written-requires-clause-segments : goal.finish-written-requires-clause-segments
finish-written-requires-clause-segments c =
    let k = c.self.invariant in
    let f : Fill = record { writer = c.self.inside.writer; segments = c.self.inside.segments; written = c.self.inside.written } in
    none_to_start k.0 k.1 k.2 f k.3 (rw (← c.self.view_is) at c.requires)

pub finish-written-requires-clause-loaded : goal.finish-written-requires-clause-loaded
finish-written-requires-clause-loaded c =
    let k = c.self.invariant in
    let f : Fill = record { writer = c.self.inside.writer; segments = c.self.inside.segments; written = c.self.inside.written } in
    none_awaited k.0 k.1 k.2 f k.3 (rw (← c.self.view_is) at c.requires)

pub returns-clause-sealed : goal.returns-clause-sealed
returns-clause-sealed c = λ M pool wish t.
    let f : Fill = record { writer = c.self.inside.writer; segments = c.self.inside.segments; written = c.self.inside.written } in
    let k = subst (FillsFrom M pool wish) (sym c.self.view_is) t in
    let s = sealed M pool wish f k (rw (← c.self.view_is) at c.requires) c.finish-written.result (c.finish-written.ensures.written k.fills.load k.fills.stands) in
    subst (λ v. IsSealed M pool wish v.segments c.from_parts.result) c.self.view_is (subst (IsSealed M pool wish f.segments) (sym c.from_parts.ensures) s)
