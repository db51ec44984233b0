use Rattle.std.proofs.Common.{subst}
use Rattle.load_states.specs.States.{Checked}
use Rattle.load_states.specs.inner.States.{checked_of}
use Rattle.load_states.specs.inner.Ready.{HoldsPairs}
use Rattle.load_states.specs.Runs.{EndsAfter}
use Rattle.load_states.proofs.Ready.{kept_done, kept_held}
use Rattle.load_states.proofs.accepted.AcceptedKept.accept_data.Goals as goal

pub returns-clause-ends : goal.returns-clause-ends
returns-clause-ends c =
    subst (λ (s : Checked). EndsAfter s.load s.words) c.self.view_is (kept_done (checked_of c.self.inside.loaded c.self.inside.accept) c.self.invariant)

pub returns-clause-held : goal.returns-clause-held
returns-clause-held c =
    subst (λ (s : Checked). HoldsPairs s.load.memory s.load.image.mode s.pairs) c.self.view_is (kept_held (checked_of c.self.inside.loaded c.self.inside.accept) c.self.invariant)
