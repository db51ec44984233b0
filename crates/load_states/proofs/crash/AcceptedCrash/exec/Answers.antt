use Rattle.std.proofs.Common.{ap, ◌∙◌, subst}
use Rattle.page_memory.specs.Contents.{Contents, at}
use Rattle.load_states.specs.States.{CrashLoad}
use Rattle.load_states.specs.inner.States.{Ran}
use Rattle.load_states.specs.inner.Runs.{CrashRunsTo}
use Rattle.load_states.proofs.Ready.{crash_ends, crash_runs}
use Rattle.load_states.proofs.crash.AcceptedCrash.exec.Goals as goal

pub run_to_end-steps-requires : goal.run_to_end-steps-requires
run_to_end-steps-requires c =
    let runs = crash_ends c.parts-memory.result.0 c.self.inside.loaded.memory c.parts-memory.result.1 c.self.inside.loaded.head c.parts-memory.ensures.memory c.parts-memory.ensures.head c.self.invariant.done in
    record { held = runs.held; ends = runs.ends }

pub returns-clause-memory : goal.returns-clause-memory
returns-clause-memory c = λ p.
    let runs = crash_ends c.parts-memory.result.0 c.self.inside.loaded.memory c.parts-memory.result.1 c.self.inside.loaded.head c.parts-memory.ensures.memory c.parts-memory.ensures.head c.self.invariant.done in
    ap (λ (r : Ran). at r.memory p) c.new.ensures ∙ ap (λ (m : Contents). at m p) c.run_to_end-steps.ensures.memory ∙ runs.leaves p ∙ ap (λ (s : CrashLoad). at s.memory p) c.self.view_is

pub returns-clause-sets : goal.returns-clause-sets
returns-clause-sets c =
    let runs = crash_ends c.parts-memory.result.0 c.self.inside.loaded.memory c.parts-memory.result.1 c.self.inside.loaded.head c.parts-memory.ensures.memory c.parts-memory.ensures.head c.self.invariant.done in
    ap (λ (r : Ran). r.memory.sets) c.new.ensures ∙ ap (λ (m : Contents). m.sets) c.run_to_end-steps.ensures.memory ∙ runs.sets ∙ ap (λ (m : Contents). m.sets) c.parts-memory.ensures.memory ∙ ap (λ (s : CrashLoad). s.memory.sets) c.self.view_is

pub returns-clause-run : goal.returns-clause-run
returns-clause-run c =
    subst (λ (s : CrashLoad). CrashRunsTo s 1 c.new.result.memory) c.self.view_is
    (crash_runs c.self.inside.loaded c.parts-memory.result.0 c.new.result.memory c.parts-memory.result.1 c.parts-memory.ensures.memory c.parts-memory.ensures.head c.self.invariant.done
    (ap (λ (r : Ran). r.memory) c.new.ensures ∙ c.run_to_end-steps.ensures.memory)).0

pub returns-clause-unchanged : goal.returns-clause-unchanged
returns-clause-unchanged c =
    (crash_runs c.self.inside.loaded c.parts-memory.result.0 c.new.result.memory c.parts-memory.result.1 c.parts-memory.ensures.memory c.parts-memory.ensures.head c.self.invariant.done
    (ap (λ (r : Ran). r.memory) c.new.ensures ∙ c.run_to_end-steps.ensures.memory)).1
    ∙ ap (λ (s : CrashLoad). s.memory) c.self.view_is
