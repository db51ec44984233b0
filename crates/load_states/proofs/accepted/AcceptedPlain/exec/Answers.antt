use Rattle.std.proofs.Common.{ap, ◌∙◌, subst}
use Rattle.page_memory.specs.Contents.{Contents, at}
use Rattle.segments.specs.Values.{overlay, want}
use Rattle.load_states.specs.States.{Checked}
use Rattle.load_states.specs.inner.States.{Ran, checked_of}
use Rattle.load_states.specs.inner.Runs.{RunsTo}
use Rattle.load_states.proofs.Ready.{plain_ends, runs_to}
use Rattle.load_states.proofs.accepted.AcceptedPlain.exec.Goals as goal

pub run_to_end-steps-requires : goal.run_to_end-steps-requires
run_to_end-steps-requires c =
    let runs = plain_ends (checked_of c.self.inside.loaded c.self.inside.accept) c.parts-memory.result.0 c.parts-memory.result.2 c.self.invariant c.parts-memory.ensures.memory c.parts-memory.ensures.image in
    record { held = runs.held; ends = runs.ends }

pub returns-clause-steps : goal.returns-clause-steps
returns-clause-steps c = ap (λ (r : Ran). r.steps) c.new.ensures ∙ c.run_to_end-steps.ensures.steps ∙ ap (λ (s : Checked). s.words) c.self.view_is

pub returns-clause-memory : goal.returns-clause-memory
returns-clause-memory c = λ p.
    let runs = plain_ends (checked_of c.self.inside.loaded c.self.inside.accept) c.parts-memory.result.0 c.parts-memory.result.2 c.self.invariant c.parts-memory.ensures.memory c.parts-memory.ensures.image in
    ap (λ (r : Ran). at r.memory p) c.new.ensures ∙ ap (λ (m : Contents). at m p) c.run_to_end-steps.ensures.memory ∙ runs.leaves p ∙ ap (λ (s : Checked). overlay (at s.load.memory) (want s.load.segments) p) c.self.view_is

pub returns-clause-sets : goal.returns-clause-sets
returns-clause-sets c =
    let runs = plain_ends (checked_of c.self.inside.loaded c.self.inside.accept) c.parts-memory.result.0 c.parts-memory.result.2 c.self.invariant c.parts-memory.ensures.memory c.parts-memory.ensures.image in
    ap (λ (r : Ran). r.memory.sets) c.new.ensures ∙ ap (λ (m : Contents). m.sets) c.run_to_end-steps.ensures.memory ∙ runs.sets ∙ ap (λ (m : Contents). m.sets) c.parts-memory.ensures.memory ∙ ap (λ (s : Checked). s.load.memory.sets) c.self.view_is

pub returns-clause-run : goal.returns-clause-run
returns-clause-run c =
    let s : Checked = checked_of c.self.inside.loaded c.self.inside.accept in
    let runs = plain_ends s c.parts-memory.result.0 c.parts-memory.result.2 c.self.invariant c.parts-memory.ensures.memory c.parts-memory.ensures.image in
    subst (λ (s : Checked). RunsTo s.load s.words c.new.result.memory) c.self.view_is
    (runs_to s.load c.parts-memory.result.0 c.new.result.memory c.parts-memory.result.2 s.words _ c.parts-memory.ensures.memory c.parts-memory.ensures.image runs
    (ap (λ (r : Ran). r.memory) c.new.ensures ∙ c.run_to_end-steps.ensures.memory))
