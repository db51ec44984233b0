-- What holds of events one after another.
use Rattle.std.proofs.Common.{◌≡◌, ℕ, List, [], ◌∷◌, ◌++◌, false, refl, sym, ap, ◌∙◌, inl, inr, append_assoc, subst}
use Rattle.std.specs.Prelude.{OnErr, Result, Ok, Err}
use Rattle.std.proofs.lemmas.Bool.{true≢false}
use Rattle.kx_pages.specs.Lists.{count}
use Rattle.image_slots.specs.declared.reply.Reply.{Reply}
use Rattle.image_slots.specs.Events.{EventValue}
use Rattle.image_slots.specs.Pages.{all_pages}
use Rattle.image_slots.specs.Sequences.{AreKept, IsBusyExactly, IsKept, IsShortExactly, after_events, replies_to}
use Rattle.image_slots.specs.inner.Sequences.{StopsAt, StopsIn, is_memory}
use Rattle.image_slots.specs.inner.Soundness.{IsSound}
use Rattle.image_slots.specs.States.{State}
use Rattle.image_slots.specs.Steps.{Outcome, step}
use Rattle.image_slots.specs.inner.Steps.{Follows, after_want}
use Rattle.image_slots.proofs.Busy.{busy_only, step_busy}
use Rattle.image_slots.proofs.Short.{short_only, step_short}
use Rattle.image_slots.proofs.Sound.{follows_gone, follows_pages, follows_sound, sound_accepted}

-- what is not the answer for want of memory is that of the step
pub following_is_step : (s : State) (e : EventValue) (r : Reply) (t : State) → is_memory r ≡ false → Follows (step s e) (after_want s e) r t → step s e ≡ (r, t)
following_is_step s e r t other (inl same) = same
following_is_step s e r t other (inr want) = absurd (true≢false (ap is_memory (sym want.0) ∙ other))

-- one event more
pub next_replies : (s t : State) (e : EventValue) (r : Reply) (old new all : List Reply) (es : List EventValue) → step s e ≡ (r, t) → new ≡ old ++ r ∷ [] → old ++ replies_to s (e ∷ es) ≡ all → new ++ replies_to t es ≡ all
next_replies s t e r old new all es stepped pushed h =
    ap (λ (rs : List Reply). rs ++ replies_to t es) pushed ∙ append_assoc old (r ∷ []) (replies_to t es)
    ∙ ap (λ (o : Outcome). old ++ (o.0 ∷ replies_to o.1 es)) (sym stepped) ∙ h

pub next_state : (s t end : State) (e : EventValue) (r : Reply) (es : List EventValue) → step s e ≡ (r, t) → after_events s (e ∷ es) ≡ end → after_events t es ≡ end
next_state s t end e r es stepped h = ap (λ (o : Outcome). after_events o.1 es) (sym stepped) ∙ h

busy_exactly : (s : State) (e : EventValue) → IsBusyExactly s e
busy_exactly s e = λ caller. ((λ h. busy_only s e (step s e).0 (step s e).1 caller (inl refl) h), (λ k. step_busy s e caller k))

short_exactly : (s : State) → (s.gone ≡ false → IsSound s) → (e : EventValue) → IsShortExactly s e
short_exactly s sound e = λ pool need. ((λ h. short_only s sound e pool need h), (λ k. step_short s sound e pool need k))

-- what holds in any case holds of a refusal
pub on_err : {A E : Type 0} (r : Result A E) (X : Type 0) → X → OnErr r X
on_err (Ok v) X k = tt
on_err (Err e) X k = k

-- memory was wanted at an event: what stands then
pub stops_there : (s : State) (e : EventValue) (r : Reply) (t : State) → Follows (step s e) (after_want s e) r t → StopsAt s e t
stops_there s e r t (inl same) = inr (ap (λ (o : Outcome). o.1) (sym same))
stops_there s e r t (inr want) = inl want.1

-- or at a later one
pub stops_later : (s t u : State) (e : EventValue) (r : Reply) (es : List EventValue) → step s e ≡ (r, t) → StopsIn t es u → StopsIn s (e ∷ es) u
stops_later s t u e r es stepped k = inr (subst (λ (o : Outcome). StopsIn o.1 es u) (sym stepped) k)

kept_here : (pages : List ℕ) (s : State) → IsSound s → ((x : ℕ) → count x (all_pages s) ≡ count x pages) → IsKept pages s
kept_here pages s k same = record { accepted = sound_accepted s k; together = same; once = k.pages.once }

-- the theorem, over every list of events
pub are_kept : (pages : List ℕ) (s : State) (es : List EventValue) → (s.gone ≡ false → IsSound s) → (s.gone ≡ false → (x : ℕ) → count x (all_pages s) ≡ count x pages) → AreKept pages s es
are_kept pages s [] sound same = λ g. kept_here pages s (sound g) (same g)
are_kept pages s (e ∷ es) sound same =
    let before : (step s e).1.gone ≡ false → s.gone ≡ false = λ g. follows_gone s e (step s e).0 (step s e).1 (inl refl) g in (
      (λ g. kept_here pages s (sound g) (same g)),
      busy_exactly s e,
      short_exactly s sound e,
      are_kept pages (step s e).1 es (λ g. follows_sound s (sound (before g)) e (step s e).0 (step s e).1 (inl refl) g)
          (λ g x. follows_pages s e (step s e).0 (step s e).1 (inl refl) g x ∙ same (before g) x),
    )
