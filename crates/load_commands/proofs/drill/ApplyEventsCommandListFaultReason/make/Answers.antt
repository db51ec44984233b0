use Rattle.std.proofs.Common.{rules, ◌≡◌, ◌∙◌, Err, ap, inl, inr, refl, subst, append-nil}
use Rattle.kx_pages.specs.Bytes.{Mem}
use Rattle.page_memory.specs.Contents.{at}
use Rattle.image_slots.specs.Pages.{all_pages}
use Rattle.image_slots.specs.Sequences.{AreKept, after_events, replies_to}
use Rattle.image_slots.specs.States.{State}
use Rattle.file_commands.proofs.Made.{handed_on_as}
use Rattle.load_commands.specs.Drill.{Meets, first_meeting, start}
use Rattle.load_commands.specs.inner.Views.{drill_inputs}
use Rattle.command_parts.specs.Outputs.{HasNoFile}
use Rattle.load_commands.specs.Replies.{reply_lines}
use Rattle.command_parts.proofs.Outputs.{file_as, no_file_as}
use Rattle.load_commands.proofs.drill.ApplyEventsCommandListFaultReason.make.Goals as goal

pub returns-in_err-slots : goal.returns-in_err-slots
returns-in_err-slots c =
    let x = drill_inputs c.args.taken in
    let e : c.from_residual.result ≡ Err c.in_err-slots.field-0.0 = search rules in
    handed_on_as _ _ (Meets (first_meeting x)) _ _ e (λ why r. inl r) c.in_err-slots.ensures

pub returns-in_err-outputs : goal.returns-in_err-outputs
returns-in_err-outputs c =
    let x = drill_inputs c.args.taken in
    let e : c.from_residual-in_err-outputs.result ≡ Err c.in_err-outputs.field-0.0 = search rules in
    let made = c.in_ok-slots.ensures in
    let s = c.event_lines-lines.new.slots in
    let end : at s.memory ≡ (after_events (start x made.0) x.events).memory = ap (λ (s : State). s.memory) (c.in_ok-text.ensures.after ∙ ap (λ (s : State). after_events s x.events) made.3) in
    handed_on_as _ _ (HasNoFile (at c.into_memory-memory.result)) _ _ e
    (λ why h. inr (made.0, made.1, made.2, no_file_as (at c.into_memory-memory.result) (after_events (start x made.0) x.events).memory why (λ p. ap (λ m. at m p) c.into_memory-memory.ensures ∙ ap (λ (M : Mem). M p) end) h)) c.in_err-outputs.ensures

pub returns : goal.returns
returns c =
    let x = drill_inputs c.args.taken in
    let made = c.in_ok-slots.ensures in
    let s = c.event_lines-lines.new.slots in
    let first = made.3 in
    let end : at s.memory ≡ (after_events (start x made.0) x.events).memory = ap (λ (s : State). s.memory) (c.in_ok-text.ensures.after ∙ ap (λ (s : State). after_events s x.events) first) in
    let w = c.in_ok-outputs.ensures in
    let kept = subst (λ (s : State). AreKept (all_pages s) s x.events) first c.event_lines-lines.ensures.kept in rw c.done.ensures (
      made.0,
      made.1,
      made.2,
      c.in_ok-text.ensures.text ∙ ap (λ (s : State). reply_lines 1 (replies_to s x.events)) first,
      refl,
      subst (λ pages. AreKept pages (start x made.0) x.events) (append-nil x.pool) kept,
      w.0,
      file_as (at c.into_memory-memory.result) (after_events (start x made.0) x.events).memory w.0 (λ p. ap (λ m. at m p) c.into_memory-memory.ensures ∙ ap (λ (M : Mem). M p) end) w.2,
      w.1,
    )
