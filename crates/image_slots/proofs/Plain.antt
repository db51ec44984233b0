-- Which events are answered by a reply that tells neither of another caller nor of too few pages.
use Rattle.std.proofs.Common.{◌≡◌, ℕ, List, [], Bool, true, false, cond, length, Option, Some, None, refl, sym, ap, ◌∙◌, inl, inr}
use Rattle.std.specs.Prelude.{◌⊎◌}
use Rattle.std.proofs.lemmas.Bool.{false≢true}
use Rattle.kx_pages.specs.declared.image.Wish.{Wish}
use Rattle.segments.specs.Values.{SegmentValue, need}
use Rattle.segments.specs.Rules.{refusal}
use Rattle.segments.specs.declared.fault.SegFault.{SegFault}
use Rattle.segments.specs.declared.fault.Kind.TheVariants as segment_kinds
use Rattle.kimage_list.specs.Load.{Loading}
use Rattle.load_states.specs.Loads.{loading_of}
use Rattle.image_slots.specs.declared.event.LoadKind.{LoadKind}
use Rattle.image_slots.specs.declared.event.LoadKind.TheVariants as kinds
use Rattle.image_slots.specs.declared.reply.Reply.{Reply}
use Rattle.image_slots.specs.declared.reply.Reply.TheVariants as replies
use Rattle.image_slots.specs.States.{Crash, Normal, Stage, Draft, Written, Placed, State, Underway}
use Rattle.image_slots.specs.Events.{EventValue, Open, Add, Write, Install, Cancel, Unload, Store, Exec, Panic}
use Rattle.image_slots.specs.Pages.{touches}
use Rattle.image_slots.specs.Steps.{Outcome, act, add_by, add_stage, cancel_by, exec_by, has_no_area, install_by, install_stage, open_by, panic_by, segment_kind, store, store_done, unload_crash, unload_normal, with_load, write_by, write_by_fault, write_normal, write_stage}

abbrev pub is_plain : Reply → Bool
is_plain (replies.Busy caller) = false
is_plain (replies.NoPages pool need) = false
is_plain other = true

abbrev pub IsPlain : Outcome → Type 0
IsPlain o = is_plain o.0 ≡ true

pub never_plain : (r q : Reply) → is_plain q ≡ false → r ≡ q → is_plain r ≡ true → ⊥
never_plain r q other same plain = false≢true (sym other ∙ ap is_plain (sym same) ∙ plain)

open_plain : (s : State) (caller : ℕ) (kind : LoadKind) (o : Option Underway) → IsPlain (open_by s caller kind o)
open_plain s caller kind (Some l) = refl
open_plain s caller kind None = go (has_no_area kind s.area)
  where
    go : (b : Bool) → is_plain (cond {A = Outcome} b (replies.NoArea, s) (replies.Done, with_load s (Some (record { caller = caller; stage = Draft kind [] })))).0 ≡ true
    go true = refl
    go false = refl

add_plain : (s : State) (segment : SegmentValue) (o : Option Underway) → IsPlain (add_by s segment o)
add_plain s segment None = refl
add_plain s segment (Some l) = go l.stage
  where
    go : (st : Stage) → is_plain (add_stage s l.caller segment st).0 ≡ true
    go (Draft kind list) = refl
    go (Written n) = refl
    go (Placed k) = refl

install_plain : (s : State) (o : Option Underway) → IsPlain (install_by s o)
install_plain s None = refl
install_plain s (Some l) = go l.stage
  where
    go : (st : Stage) → is_plain (install_stage s st).0 ≡ true
    go (Draft kind list) = refl
    go (Written n) = refl
    go (Placed k) = refl

cancel_plain : (s : State) (o : Option Underway) → IsPlain (cancel_by s o)
cancel_plain s None = refl
cancel_plain s (Some l) = refl

crash_plain : (s : State) (o : Option Crash) → IsPlain (unload_crash s o)
crash_plain s None = refl
crash_plain s (Some k) = refl

image_plain : (s : State) (o : Option Normal) → IsPlain (unload_normal s o)
image_plain s None = refl
image_plain s (Some n) = refl

store_plain : (s : State) (p : ℕ) (bytes : List ℕ) → IsPlain (store s p bytes)
store_plain s p bytes = go (touches s p)
  where
    go : (b : Bool) → is_plain (cond {A = Outcome} b (replies.Touched p, s) (store_done s p bytes)).0 ≡ true
    go true = refl
    go false = refl

exec_plain : (s : State) (o : Option Normal) → IsPlain (exec_by s o)
exec_plain s None = refl
exec_plain s (Some n) = refl

panic_plain : (s : State) (o : Option Crash) → IsPlain (panic_by s o)
panic_plain s None = refl
panic_plain s (Some k) = refl

-- the load that is written takes more pages than are left
pub record Short (s : State) (l : Underway) (r : Reply) : Type 0 where
  pub wish : Wish
  pub list : List SegmentValue
  pub stage : l.stage ≡ Draft (kinds.Normal wish) list
  pub good : refusal s.ram segment_kinds.Normal list ≡ None
  pub reply : r ≡ replies.NoPages (length s.left) (need wish list)
  pub none : loading_of wish list s.left ≡ None

write_says : (s : State) (l : Underway) (st : Stage) → l.stage ≡ st → IsPlain (write_stage s l.caller st) ⊎ Short s l (write_stage s l.caller st).0
write_says s l (Written n) is = inl refl
write_says s l (Placed k) is = inl refl
write_says s l (Draft kinds.Crash list) is = go (refusal s.ram (segment_kind kinds.Crash s.area) list)
  where
    go : (o : Option SegFault) → IsPlain (write_by_fault s l.caller kinds.Crash list o) ⊎ Short s l (write_by_fault s l.caller kinds.Crash list o).0
    go (Some fault) = inl refl
    go None = inl refl
write_says s l (Draft (kinds.Normal wish) list) is = go (refusal s.ram segment_kinds.Normal list) refl
  where
    over : (o : Option Loading) → loading_of wish list s.left ≡ o → refusal s.ram segment_kinds.Normal list ≡ None
        → IsPlain (write_normal s l.caller wish list o) ⊎ Short s l (write_normal s l.caller wish list o).0
    over (Some loading) e good = inl refl
    over None e good = inr (record { wish = wish; list = list; stage = is; good = good; reply = refl; none = e })

    go : (o : Option SegFault) → refusal s.ram segment_kinds.Normal list ≡ o
        → IsPlain (write_by_fault s l.caller (kinds.Normal wish) list o) ⊎ Short s l (write_by_fault s l.caller (kinds.Normal wish) list o).0
    go (Some fault) e = inl refl
    go None e = over (loading_of wish list s.left) refl e

-- the event writes such a load
pub record WritesShort (s : State) (e : EventValue) (r : Reply) : Type 0 where
  pub caller : ℕ
  pub writes : e ≡ Write caller
  pub load : Underway
  pub under_way : s.load ≡ Some load
  pub short : Short s load r

pub act_says : (s : State) (e : EventValue) → IsPlain (act s e) ⊎ WritesShort s e (act s e).0
act_says s (Open caller kind) = inl (open_plain s caller kind s.load)
act_says s (Add caller segment) = inl (add_plain s segment s.load)
act_says s (Install caller) = inl (install_plain s s.load)
act_says s (Cancel caller) = inl (cancel_plain s s.load)
act_says s (Unload caller true) = inl (crash_plain s s.crash)
act_says s (Unload caller false) = inl (image_plain s s.normal)
act_says s (Store page bytes) = inl (store_plain s page bytes)
act_says s (Exec caller) = inl (exec_plain s s.normal)
act_says s Panic = inl (panic_plain s s.crash)
act_says s (Write caller) = go s.load refl
  where
    go : (o : Option Underway) → s.load ≡ o → IsPlain (write_by s o) ⊎ WritesShort s (Write caller) (write_by s o).0
    go None e = inl refl
    go (Some l) e = with_says (write_says s l l.stage refl)
      where
        with_says : IsPlain (write_stage s l.caller l.stage) ⊎ Short s l (write_stage s l.caller l.stage).0 → IsPlain (write_by s (Some l)) ⊎ WritesShort s (Write caller) (write_by s (Some l)).0
        with_says (inl plain) = inl plain
        with_says (inr k) = inr (record { caller = caller; writes = refl; load = l; under_way = e; short = k })
