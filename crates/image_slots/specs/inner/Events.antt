-- Events, as plain data (this project's own).
-- No clause of `kexec` reaches what stands here: it serves laws, and contracts inside the crates.
use Rattle.std.specs.Prelude.{◌≤◌, length}
use Rattle.image_slots.specs.declared.event.Event.{Event}
use Rattle.image_slots.specs.declared.event.Event.TheVariants as events
use Rattle.image_slots.specs.Events.{Add, Cancel, EventValue, Exec, Install, Open, Panic, Store, Unload, Write}

abbrev pub event_of : Event → EventValue
event_of (events.Open caller kind) = Open caller kind
event_of (events.Add caller segment) = Add caller segment
event_of (events.Write caller) = Write caller
event_of (events.Install caller) = Install caller
event_of (events.Cancel caller) = Cancel caller
event_of (events.Unload caller crash) = Unload caller crash
event_of (events.Store page bytes) = Store page bytes.items
event_of (events.Exec caller) = Exec caller
event_of events.Panic = Panic

-- a page is stored from at most 4,096 bytes
abbrev pub HasFewBytes : EventValue → Type 0
HasFewBytes (Store page bytes) = length bytes ≤ 4096
HasFewBytes (Open caller kind) = Unit {0}
HasFewBytes (Add caller segment) = Unit {0}
HasFewBytes (Write caller) = Unit {0}
HasFewBytes (Install caller) = Unit {0}
HasFewBytes (Cancel caller) = Unit {0}
HasFewBytes (Unload caller crash) = Unit {0}
HasFewBytes (Exec caller) = Unit {0}
HasFewBytes Panic = Unit {0}
