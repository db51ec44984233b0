-- What is known of the events that were read (this project's own).
-- No clause of `kexec` reaches what stands here: it serves laws, and contracts inside the crates.
use Rattle.std.specs.Prelude.{List, length, map, Bool, true, not, nat_lt}
use Rattle.std.specs.List.{list_all}
use Rattle.image_slots.specs.declared.event.Event.{Event}
use Rattle.image_slots.specs.Events.{EventValue, Store}
use Rattle.image_slots.specs.inner.Events.{event_of}

-- a page is stored from at most 4,096 bytes
abbrev pub is_short : EventValue → Bool
is_short (Store page bytes) = not (nat_lt 4096 (length bytes))
is_short other = true

-- each store of these is
abbrev pub are_short : List Event → Bool
are_short events = list_all is_short (map event_of events)
