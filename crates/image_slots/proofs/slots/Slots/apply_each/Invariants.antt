use Rattle.std.proofs.Common.{◌≡◌, ◌++◌, map}
use Rattle.std.specs.List.{AllByRecursion}
use Rattle.std.specs.Vec.Iter.{into_iter_items}
use Rattle.image_slots.specs.inner.Events.{HasFewBytes, event_of}
use Rattle.image_slots.specs.Sequences.{after_events, replies_to}
use Rattle.image_slots.specs.inner.Sequences.{StopsIn}
use Rattle.image_slots.specs.inner.States.{state_of}
use Rattle.image_slots.specs.States.{State}
use Rattle.image_slots.proofs.slots.Slots.apply_each.Given as goal

abbrev pub invariant-loop-event : goal.invariant-loop-event
invariant-loop-event l = record {
  can : (goal.iterator-loop-event).can_next l.event-iterator;
  finite : (goal.iterator-loop-event).is_finite l.event-iterator;
  few : AllByRecursion (λ e. HasFewBytes (event_of e)) (into_iter_items l.event-iterator);
  replies : l.replies.items ++ replies_to (state_of l.self) (map event_of (into_iter_items l.event-iterator)) ≡ replies_to (state_of l.fn.self) (map event_of l.fn.events.items);
  stops : (t : State) → StopsIn (state_of l.self) (map event_of (into_iter_items l.event-iterator)) t → StopsIn (state_of l.fn.self) (map event_of l.fn.events.items) t;
  after : after_events (state_of l.self) (map event_of (into_iter_items l.event-iterator)) ≡ after_events (state_of l.fn.self) (map event_of l.fn.events.items);
}
