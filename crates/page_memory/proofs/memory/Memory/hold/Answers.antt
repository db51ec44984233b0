use Rattle.std.proofs.Common.{ap, sym, ◌∙◌, subst, ◌≡◌, ◌⊎◌}
use Rattle.std.specs.Prelude.{IsSome, is_some}
use Rattle.std.specs.FinMap as finite
use Rattle.page_memory.specs.Contents.{frame_at}
use Rattle.page_memory.specs.inner.Contents.{IsHeld}
use Rattle.page_memory.proofs.Laws.{held-insert, held-insert_same, held-insert_only, frame_at-insert_zeros}
use Rattle.page_memory.specs.inner.Frames.{frame_in}
use Rattle.page_memory.proofs.Moves.{page_of-nothing}
use Rattle.page_memory.proofs.Tables.{none_held, some_held}
use Rattle.page_memory.proofs.memory.Memory.hold.Goals as goal

pub add_frame-requires-clause-absent : goal.add_frame-requires-clause-absent
add_frame-requires-clause-absent c = none_held (frame_in c.self.inside.frames.items) c.self.inside.table.places c.args.p c.in-None.ensures.value

pub returns-in-Some-clause-held : goal.returns-in-Some-clause-held
returns-in-Some-clause-held c = ap is_some (ap (λ m. finite.get m.pages c.args.p) (sym c.self.view_is) ∙ some_held (frame_in c.self.inside.frames.items) c.self.inside.table.places c.args.p c.in-Some.field-0 c.in-Some.ensures.value)

pub returns-in_ok-add_frame-in-None-clause-held : goal.returns-in_ok-add_frame-in-None-clause-held
returns-in_ok-add_frame-in-None-clause-held c = rw c.in_ok-add_frame-in-None.ensures.ok (held-insert_same _ _ _)

pub returns-in_ok-add_frame-in-None-clause-same : goal.returns-in_ok-add_frame-in-None-clause-same
returns-in_ok-add_frame-in-None-clause-same c = λ q.
    rw (c.in_ok-add_frame-in-None.ensures.ok, page_of-nothing)
    (frame_at-insert_zeros _ c.args.p q (ap is_some (none_held (frame_in c.self.inside.frames.items) c.self.inside.table.places c.args.p c.in-None.ensures.value))
    ∙ ap (λ m. frame_at m.pages q) c.self.view_is)

pub returns-in_ok-add_frame-in-None-clause-stay : goal.returns-in_ok-add_frame-in-None-clause-stay
returns-in_ok-add_frame-in-None-clause-stay c = λ q h. rw (c.in_ok-add_frame-in-None.ensures.ok) (held-insert _ _ _ q (rw (ap (λ m. m.pages) c.self.view_is) h))

pub returns-in_ok-add_frame-in-None-clause-only : goal.returns-in_ok-add_frame-in-None-clause-only
returns-in_ok-add_frame-in-None-clause-only c = λ q h.
    subst (λ m. IsHeld m q ⊎ (q ≡ c.args.p)) c.self.view_is (held-insert_only _ c.args.p _ q (subst (λ t. IsSome (finite.get t q)) (c.in_ok-add_frame-in-None.ensures.ok) h))
