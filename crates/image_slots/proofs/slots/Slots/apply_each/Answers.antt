use Rattle.std.proofs.Common.{rules, ◌≡◌, ◌∙◌, ◌∷◌, [], map, refl, sym, append-nil, ap, inl, inr}
use Rattle.std.proofs.lemmas.List.{nil_from_length}
use Rattle.std.specs.Vec.Iter.{into_iter_items}
use Rattle.image_slots.specs.inner.Events.{event_of}
use Rattle.image_slots.specs.Pages.{all_pages}
use Rattle.image_slots.specs.inner.States.{state_of}
use Rattle.image_slots.specs.Steps.{Outcome}
use Rattle.image_slots.proofs.Sequences.{are_kept, next_replies, next_state, on_err, stops_later}
use Rattle.image_slots.proofs.slots.Slots.apply_each.Goals as goal

pub answer-requires : goal.answer-requires
answer-requires c =
    let items : into_iter_items c.loop-event.event-iterator ≡ c.in-Some.event ∷ into_iter_items c.next.new.self = search rules in
    let few = rw items at c.loop-event.invariant.few in
    few.0

pub loop-event-preserved : goal.loop-event-preserved
loop-event-preserved c =
    let items : into_iter_items c.loop-event.event-iterator ≡ c.in-Some.event ∷ into_iter_items c.next.new.self = search rules in
    let few = rw items at c.loop-event.invariant.few in
    let replies = rw items at c.loop-event.invariant.replies in
    let after = rw items at c.loop-event.invariant.after in
    let stops = rw items at c.loop-event.invariant.stops in
    let s = state_of c.loop-event.self in
    let t = state_of c.answer.new.self in
    let e = event_of c.in-Some.event in
    let es = map event_of (into_iter_items c.next.new.self) in
    record {
      can = tt;
      finite = tt;
      few = few.1;
      replies = next_replies s t e c.in_ok-reply.reply c.loop-event.replies.items c.push.new.self.items _ es c.in_ok-reply.ensures.exact c.in_ok-push.ensures.items replies;
      stops = λ u k. stops u (stops_later s t u e c.in_ok-reply.reply es c.in_ok-reply.ensures.exact k);
      after = next_state s t _ e c.in_ok-reply.reply es c.in_ok-reply.ensures.exact after;
    }

pub returns-clause-replies : goal.returns-clause-replies
returns-clause-replies c =
    let none : into_iter_items c.loop-event.event-iterator ≡ [] = nil_from_length c.loop-event.event-iterator.rest.items (search rules) in
    let replies = rw none at c.loop-event.invariant.replies in
    sym (append-nil c.loop-event.replies.items) ∙ replies

pub returns-clause-after : goal.returns-clause-after
returns-clause-after c =
    let none : into_iter_items c.loop-event.event-iterator ≡ [] = nil_from_length c.loop-event.event-iterator.rest.items (search rules) in
    rw none at c.loop-event.invariant.after

pub returns-clause-kept : goal.returns-clause-kept
returns-clause-kept c = are_kept (all_pages (state_of c.args.self.now)) (state_of c.args.self.now) (map event_of c.args.events.items) c.gone-gone.ensures.sound (λ g x. refl)

pub returns-in_err-reply-clause-kept : goal.returns-in_err-reply-clause-kept
returns-in_err-reply-clause-kept c = are_kept (all_pages (state_of c.args.self.now)) (state_of c.args.self.now) (map event_of c.args.events.items) c.gone-gone.ensures.sound (λ g x. refl)

pub returns-in_err-push-clause-kept : goal.returns-in_err-push-clause-kept
returns-in_err-push-clause-kept c = are_kept (all_pages (state_of c.args.self.now)) (state_of c.args.self.now) (map event_of c.args.events.items) c.gone-gone.ensures.sound (λ g x. refl)

pub returns-in_err-reply-clause-stops : goal.returns-in_err-reply-clause-stops
returns-in_err-reply-clause-stops c =
    let items : into_iter_items c.loop-event.event-iterator ≡ c.in-Some.event ∷ into_iter_items c.next.new.self = search rules in
    let stops = rw items at c.loop-event.invariant.stops in
    on_err _ _ (stops (state_of c.answer.new.self) (inl c.in_err-reply.ensures.stops))

pub returns-in_err-push-clause-stops : goal.returns-in_err-push-clause-stops
returns-in_err-push-clause-stops c =
    let items : into_iter_items c.loop-event.event-iterator ≡ c.in-Some.event ∷ into_iter_items c.next.new.self = search rules in
    let stops = rw items at c.loop-event.invariant.stops in
    on_err _ _ (stops (state_of c.answer.new.self) (inl (inr (ap (λ (o : Outcome). o.1) (sym c.in_ok-reply.ensures.exact)))))
