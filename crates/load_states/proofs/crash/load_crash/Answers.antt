use Rattle.std.proofs.Common.{◌≡◌, ℕ, List, Option, sym, ap, ◌∙◌, subst, inl, inr, ⊎_elim}
use Rattle.std.specs.Prelude.{IsSome, Some, is_some}
use Rattle.page_memory.specs.Contents.{at}
use Rattle.page_memory.specs.inner.Contents.{IsHeld}
use Rattle.segments.specs.Values.{want}
use Rattle.segments.proofs.Laws.{is_some-want}
use Rattle.kx_laws.proofs.Options.{some_same}
use Rattle.list_checker.specs.Crash.{AcceptedCrash}
use Rattle.load_states.specs.States.{CrashLoad}
use Rattle.load_states.specs.inner.Laying.{Lays}
use Rattle.load_states.proofs.Laying.{lays_more, laid_overlay}
use Rattle.load_states.proofs.crash.load_crash.Goals as goal

pub returns-in-Ok-clause-loaded : goal.returns-in-Ok-clause-loaded
returns-in-Ok-clause-loaded c = λ p.
    let S = c.args.segments in
    let M = at c.args.memory in
    let H = at c.hold_set.new.memory in
    let N = at c.lay_set.new.memory in
    let lays : Lays S M N = lays_more S M H N (λ q. inl (c.hold_set.ensures.same q)) c.lay_set.ensures.lays in
    let right : (p : ℕ) → IsSome (want S p) → want S p ≡ Some (N p) = λ p h. c.lay_set.ensures.right p (c.spans-in-Ok.ensures.pages p ∙ sym (is_some-want S p) ∙ h) h in
    ap (λ (s : CrashLoad). at s.memory p) c.from_parts.ensures ∙ laid_overlay S M N lays right p

pub returns-in-Ok-clause-accepted : goal.returns-in-Ok-clause-accepted
returns-in-Ok-clause-accepted c =
    let S = c.args.segments in
    let N = at c.lay_set.new.memory in
    let right : (p : ℕ) → IsSome (want S p) → want S p ≡ Some (N p) = λ p h. c.lay_set.ensures.right p (c.spans-in-Ok.ensures.pages p ∙ sym (is_some-want S p) ∙ h) h in
    subst (λ (s : CrashLoad). AcceptedCrash (at s.memory) (want s.segments) s.head) (sym c.from_parts.ensures)
    (record {
      done = λ i. 4;
      there = λ p bytes e. some_same (N p) bytes (sym (right p (there_some (want S p) bytes e)) ∙ e);
    })
  where
    there_some : (o : Option (List ℕ)) (b : List ℕ) → o ≡ Some b → IsSome o
    there_some o b e = ap is_some e

pub returns-in-Ok-clause-held : goal.returns-in-Ok-clause-held
returns-in-Ok-clause-held c = λ q.
    let S = c.args.segments in (
      λ h. ⊎_elim
          (λ x. inl x)
          (λ t. inr (sym (c.spans.ensures.pages q) ∙ t))
          (c.hold_set.ensures.only q (c.lay_set.ensures.only q (subst (λ (s : CrashLoad). IsHeld s.memory q) c.from_parts.ensures h))),
      λ h. subst (λ (s : CrashLoad). IsHeld s.memory q) (sym c.from_parts.ensures)
          (c.lay_set.ensures.stay q (⊎_elim (c.hold_set.ensures.stay q) (λ t. c.in-Ok.ensures.held q (c.spans.ensures.pages q ∙ t)) h)),
    )
