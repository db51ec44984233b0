use Rattle.std.proofs.Common.{sym, subst}
use Rattle.std.specs.Prelude.{IsSome}
use Rattle.kx_pages.specs.Bytes.{page_of}
use Rattle.segments.specs.Values.{want}
use Rattle.load_states.specs.States.{Checked}
use Rattle.load_states.specs.inner.States.{checked_of}
use Rattle.load_states.proofs.Ready.{wanted_held, touch_goes_back}
use Rattle.load_states.proofs.ran.RanKept.touch.Goals as goal

pub set-requires-clause-held : goal.set-requires-clause-held
set-requires-clause-held c =
    let s : Checked = checked_of c.self.inside.loaded c.self.inside.accept in
    wanted_held s c.self.invariant c.args.p (subst (λ (t : Checked). IsSome (want t.load.segments c.args.p)) (sym c.self.view_is) c.requires.wanted)

pub invariant_of-self : goal.invariant_of-self
invariant_of-self c =
    let s : Checked = checked_of c.self.inside.loaded c.self.inside.accept in
    touch_goes_back s (checked_of c.set.new.self c.self.inside.accept) c.args.p (page_of c.args.bytes.now) c.self.invariant (subst (λ (t : Checked). IsSome (want t.load.segments c.args.p)) (sym c.self.view_is) c.requires.wanted)
    c.set.ensures (λ i. s.words) (λ i. s.links) (λ i. s.pairs)
