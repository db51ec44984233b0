-- Events one after another (this project's own).
-- No clause of `kexec` reaches what stands here: it serves laws, and contracts inside the crates.
use Rattle.std.specs.Prelude.{◌≡◌, ◌⊎◌, Bool, true, false, List, [], ◌∷◌}
use Rattle.image_slots.specs.declared.reply.Reply.{Reply}
use Rattle.image_slots.specs.declared.reply.Reply.TheVariants.{Memory}
use Rattle.image_slots.specs.Events.{EventValue}
use Rattle.image_slots.specs.States.{State}
use Rattle.image_slots.specs.Steps.{step}
use Rattle.image_slots.specs.inner.Steps.{after_want}

-- memory ran out
abbrev pub is_memory : Reply → Bool
is_memory Memory = true
is_memory other = false

-- Memory was wanted at this event: it was not applied, or it was and its reply has no room.
abbrev pub StopsAt : State → EventValue → State → Type 0
StopsAt s e t = (t ≡ after_want s e) ⊎ (t ≡ (step s e).1)

-- Memory was wanted at one of these events: those before it were applied, and no later one.
abbrev pub StopsIn : State → List EventValue → State → Type 0
StopsIn s [] t = ⊥
StopsIn s (e ∷ es) t = StopsAt s e t ⊎ StopsIn (step s e).1 es t
