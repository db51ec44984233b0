-- The step of each event: what is answered, and the state after it (this project's own).
-- No clause of `kexec` reaches what stands here: it serves laws, and contracts inside the crates.
use Rattle.std.specs.Prelude.{◌≡◌, ℕ, ◌++◌, ◌⊎◌, [], ◌∷◌, Option, Some, None, if◌then◌else◌}
use Rattle.segments.specs.Values.{SegmentValue}
use Rattle.segments.specs.declared.fault.SegFault.{SegFault}
use Rattle.segments.specs.declared.fault.SegFault.TheVariants as seg_faults
use Rattle.image_slots.specs.declared.reply.Reply.{Reply}
use Rattle.image_slots.specs.declared.reply.Reply.TheVariants as replies
use Rattle.image_slots.specs.States.{Stage, Draft, Written, Placed, State, Underway}
use Rattle.image_slots.specs.Events.{EventValue, Open, Add, Write, Install, Cancel, Unload, Store, Exec, Panic, caller_of}
use Rattle.image_slots.specs.Steps.{Outcome, without_load, other_caller}

-- Where memory is wanted nothing changes, but that segments that were to be written are given up.
abbrev pub given_up : State → Stage → State
given_up s (Draft kind list) = without_load s
given_up s (Written n) = s
given_up s (Placed c) = s

abbrev pub given_up_by : State → Option Underway → State
given_up_by s None = s
given_up_by s (Some l) = given_up s l.stage

abbrev pub spoil : State → EventValue → State
spoil s (Open caller kind) = s
spoil s (Add caller segment) = s
spoil s (Write caller) = given_up_by s s.load
spoil s (Install caller) = s
spoil s (Cancel caller) = s
spoil s (Unload caller crash) = s
spoil s (Store page bytes) = s
spoil s (Exec caller) = s
spoil s Panic = s

abbrev pub spoiled_unless_busy : State → EventValue → Option ℕ → State
spoiled_unless_busy s e (Some caller) = s
spoiled_unless_busy s e None = spoil s e

-- the state after an event for which memory was wanted
abbrev pub after_want : State → EventValue → State
after_want s e =
    if s.gone then s else spoiled_unless_busy s e (other_caller s.load (caller_of e))

-- the answer and the state are those of the outcome, or memory was wanted
abbrev pub Follows : Outcome → State → Reply → State → Type 0
Follows o left r t = (o ≡ (r, t)) ⊎ ((r ≡ replies.Memory) × (t ≡ left))

-- what is answered to segments that are refused
abbrev pub reply_to : SegFault → Reply
reply_to seg_faults.Memory = replies.Memory
reply_to seg_faults.NoSegments = replies.BadSegments seg_faults.NoSegments
reply_to seg_faults.TooMany = replies.BadSegments seg_faults.TooMany
reply_to (seg_faults.BadAddress i) = replies.BadSegments (seg_faults.BadAddress i)
reply_to (seg_faults.Overlap i j) = replies.BadSegments (seg_faults.Overlap i j)
reply_to (seg_faults.TooFull i) = replies.BadSegments (seg_faults.TooFull i)
reply_to seg_faults.HalfOfMemory = replies.BadSegments seg_faults.HalfOfMemory
reply_to (seg_faults.OutsideReserved i) = replies.BadSegments (seg_faults.OutsideReserved i)
reply_to (seg_faults.NotRam i) = replies.BadSegments (seg_faults.NotRam i)
reply_to (seg_faults.TooLarge pages) = replies.BadSegments (seg_faults.TooLarge pages)

abbrev pub add_segment : SegmentValue → Stage → Reply × Stage
add_segment segment (Draft kind list) = (replies.Done, Draft kind (list ++ segment ∷ []))
add_segment segment (Written n) = (replies.Written, Written n)
add_segment segment (Placed c) = (replies.Written, Placed c)

-- a segment comes behind those of a load, unless it is written or memory is wanted
abbrev pub Adds : SegmentValue → Stage → Reply → Stage → Type 0
Adds segment old r new =
    ((add_segment segment old ≡ (r, new)) ⊎ ((r ≡ replies.Memory) × (new ≡ old)))
