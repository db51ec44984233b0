use Rattle.std.proofs.Common.{◌∙◌, sym, ap}
use Rattle.image_slots.specs.declared.reply.Reply.{Reply}
use Rattle.image_slots.specs.inner.Events.{event_of}
use Rattle.image_slots.specs.inner.States.{state_of}
use Rattle.image_slots.specs.Steps.{Outcome}
use Rattle.image_slots.proofs.Sequences.{following_is_step, on_err, stops_there}
use Rattle.image_slots.proofs.slots.Slots.answer.Goals as goal

pub returns-clause-exact : goal.returns-clause-exact
returns-clause-exact c =
    following_is_step (state_of c.args.self.now) (event_of c.args.event) c.apply.result (state_of c.apply.new.self) c.in_ok-reply.ensures.other c.apply.ensures.exact
    ∙ ap (λ (r : Reply). outcome r) (sym c.in_ok-reply.ensures.same)
  where
    outcome : Reply → Outcome
    outcome r = (r, state_of c.apply.new.self)

pub returns-in_err-reply-clause-stops : goal.returns-in_err-reply-clause-stops
returns-in_err-reply-clause-stops c = on_err _ _ (stops_there (state_of c.args.self.now) (event_of c.args.event) c.apply.result (state_of c.apply.new.self) c.apply.ensures.exact)
