-- When NoPages is answered.
use Rattle.std.proofs.Common.{◌≡◌, ℕ, ◌<◌, ◌≤◌, List, length, Bool, true, false, cond, eqb, Option, Some, None, refl, sym, ap, ◌∙◌, inl, inr, arith}
use Rattle.std.specs.Prelude.{◌⊎◌, is_some}
use Rattle.std.proofs.lemmas.Bool.{true≢false}
use Rattle.kx_pages.specs.Lists.{count}
use Rattle.kx_pages.specs.declared.image.Wish.{Wish}
use Rattle.kimage_list.proofs.Lists.{eqb-self}
use Rattle.load_states.specs.Loads.{loading_of}
use Rattle.load_states.proofs.Exact.{loads_exactly}
use Rattle.segments.specs.Values.{SegmentValue, need}
use Rattle.segments.specs.Rules.{refusal}
use Rattle.segments.specs.inner.Shape.{AreSegments}
use Rattle.segments.specs.declared.fault.Kind.TheVariants as segment_kinds
use Rattle.segments.proofs.Laws.{AreSegments-from_IsBare, IsBare-from_refusal}
use Rattle.image_slots.specs.declared.event.LoadKind.TheVariants as kinds
use Rattle.image_slots.specs.declared.reply.Reply.{Reply}
use Rattle.image_slots.specs.declared.reply.Reply.TheVariants as replies
use Rattle.image_slots.specs.States.{Draft, State, Underway}
use Rattle.image_slots.specs.Events.{EventValue, caller_of}
use Rattle.image_slots.specs.Soundness.{IsShort}
use Rattle.image_slots.specs.inner.Soundness.{IsSound}
use Rattle.image_slots.specs.Steps.{Outcome, act, other_caller, step, unless_busy, write_by, write_by_fault, write_normal}
use Rattle.image_slots.proofs.Frames.{count_of_all}
use Rattle.image_slots.proofs.Plain.{IsPlain, WritesShort, act_says, never_plain}
use Rattle.image_slots.proofs.Prefix.{never_loads}

good_segments : (s : State) (list : List SegmentValue) → refusal s.ram segment_kinds.Normal list ≡ None → AreSegments list
good_segments s list good = AreSegments-from_IsBare list (IsBare-from_refusal s.ram segment_kinds.Normal list good)

left_once : (s : State) → IsSound s → (x : ℕ) → count x s.left ≤ 1
left_once s k x = omega (arith, count_of_all s x, k.pages.once x)

-- where a load comes to no end, the pages left are fewer than it takes
few_left : (s : State) → IsSound s → (wish : Wish) (list : List SegmentValue) → refusal s.ram segment_kinds.Normal list ≡ None → loading_of wish list s.left ≡ None → length s.left < need wish list
few_left s k wish list good none = omega (arith, enough)
  where
    enough : need wish list ≤ length s.left → ⊥
    enough h = true≢false (sym ((loads_exactly wish list s.left (good_segments s list good) (left_once s k)).1 h) ∙ ap is_some none)

-- the caller of the load under way is in nobody's way
own_load : (s : State) (e : EventValue) (pool takes : ℕ) (k : IsShort s e pool takes) → other_caller s.load (caller_of e) ≡ None
own_load s e pool takes k =
    ap (λ o. other_caller o (caller_of e)) k.draft ∙ ap (λ e. other_caller (Some (record { caller = k.caller; stage = Draft (kinds.Normal k.wish) k.list })) (caller_of e)) k.writes
    ∙ ap (λ b. cond {A = Option ℕ} b None (Some k.caller)) (eqb-self k.caller)

-- the step answers it there
pub step_short : (s : State) → (s.gone ≡ false → IsSound s) → (e : EventValue) (pool takes : ℕ) → IsShort s e pool takes → (step s e).0 ≡ replies.NoPages pool takes
step_short s sound e pool takes k =
    let none = never_loads k.wish k.list s.left (good_segments s k.list k.good) (left_once s (sound k.gone)) (omega (arith, k.fewer, k.left, k.need)) in
    ap (λ b. (cond {A = Outcome} b (replies.Gone, s) (unless_busy s e (other_caller s.load (caller_of e)))).0) k.gone
    ∙ ap (λ o. (unless_busy s e o).0) (own_load s e pool takes k)
    ∙ ap (λ e. (act s e).0) k.writes
    ∙ ap (λ o. (write_by s o).0) k.draft
    ∙ ap (λ o. (write_by_fault s k.caller (kinds.Normal k.wish) k.list o).0) k.good
    ∙ ap (λ o. (write_normal s k.caller k.wish k.list o).0) none
    ∙ (λ i. replies.NoPages (sym k.left i) (sym k.need i))

same_numbers : (a b c d : ℕ) → replies.NoPages a b ≡ replies.NoPages c d → (c ≡ a) × (d ≡ b)
same_numbers a b c d h = (sym (ap first h), sym (ap second h))
  where
    first : Reply → ℕ
    first (replies.NoPages x y) = x
    first other = 0

    second : Reply → ℕ
    second (replies.NoPages x y) = y
    second other = 0

-- where nobody's load is in the way of the event, its own is under way
own_caller : (l : Underway) (own : ℕ) → other_caller (Some l) (Some own) ≡ None → l.caller ≡ own
own_caller l own h = go (eqb l.caller own) refl h
  where
    go : (b : Bool) → eqb l.caller own ≡ b → cond {A = Option ℕ} b None (Some l.caller) ≡ None → l.caller ≡ own
    go true e h = grind arith
    go false e h = cc

short_by : (s : State) → IsSound s → s.gone ≡ false → (e : EventValue) (pool takes : ℕ) → other_caller s.load (caller_of e) ≡ None → (act s e).0 ≡ replies.NoPages pool takes
    → IsPlain (act s e) ⊎ WritesShort s e (act s e).0 → IsShort s e pool takes
short_by s k gone e pool takes own h (inl plain) = absurd (never_plain (act s e).0 (replies.NoPages pool takes) refl h plain)
short_by s k gone e pool takes own h (inr w) =
    let numbers = same_numbers (length s.left) (need w.short.wish w.short.list) pool takes (sym w.short.reply ∙ h) in
    let same : w.load.caller ≡ w.caller = own_caller w.load w.caller (sym (ap (λ o. other_caller o (caller_of e)) w.under_way ∙ ap (λ e. other_caller (Some w.load) (caller_of e)) w.writes) ∙ own) in
    record {
      gone = gone;
      caller = w.caller;
      writes = w.writes;
      wish = w.short.wish;
      list = w.short.list;
      draft = w.under_way ∙ λ i. Some (record { caller = same i; stage = w.short.stage i });
      good = w.short.good;
      left = numbers.0;
      need = numbers.1;
      fewer = omega (arith, numbers.0, numbers.1, few_left s k w.short.wish w.short.list w.short.good w.short.none);
    }

short_unless : (s : State) → IsSound s → s.gone ≡ false → (e : EventValue) (pool takes : ℕ) (o : Option ℕ) → other_caller s.load (caller_of e) ≡ o → (unless_busy s e o).0 ≡ replies.NoPages pool takes → IsShort s e pool takes
short_unless s k gone e pool takes (Some c) own h = cc
short_unless s k gone e pool takes None own h = short_by s k gone e pool takes own h (act_says s e)

-- and nowhere else
pub short_only : (s : State) → (s.gone ≡ false → IsSound s) → (e : EventValue) (pool takes : ℕ) → (step s e).0 ≡ replies.NoPages pool takes → IsShort s e pool takes
short_only s sound e pool takes h = go s.gone refl h
  where
    go : (b : Bool) → s.gone ≡ b → (cond {A = Outcome} b (replies.Gone, s) (unless_busy s e (other_caller s.load (caller_of e)))).0 ≡ replies.NoPages pool takes → IsShort s e pool takes
    go true g h = cc
    go false g h = short_unless s (sound g) g e pool takes (other_caller s.load (caller_of e)) refl h
