use Rattle.std.proofs.Common.{ap, ◌∙◌, subst}
use Rattle.page_memory.specs.Contents.{Contents, at}
use Rattle.load_states.specs.States.{Load, Checked, swap_of}
use Rattle.load_states.specs.inner.States.{Returned, checked_of}
use Rattle.load_states.specs.Exchange.{exchange}
use Rattle.load_states.specs.inner.Runs.{RestoresOthers, RunsTo}
use Rattle.load_states.proofs.Outside.{restores_others}
use Rattle.load_states.proofs.Ready.{Undoes, kept_ends, runs_to, undoes}
use Rattle.load_states.proofs.ran.RanKept.back.Goals as goal

pub run_to_end-steps-requires : goal.run_to_end-steps-requires
run_to_end-steps-requires c =
    let k = c.self.invariant in
    let runs = kept_ends k.before (checked_of c.self.inside.loaded c.self.inside.accept) k.swap k.items c.parts-memory.result.0 c.parts-memory.result.2 k.kept c.parts-memory.ensures.memory c.parts-memory.ensures.image in
    record { held = runs.held; ends = runs.ends }

pub returns-clause-memory : goal.returns-clause-memory
returns-clause-memory c = λ p.
    let k = c.self.invariant in
    let runs = kept_ends k.before (checked_of c.self.inside.loaded c.self.inside.accept) k.swap k.items c.parts-memory.result.0 c.parts-memory.result.2 k.kept c.parts-memory.ensures.memory c.parts-memory.ensures.image in
    ap (λ (l : Load). at l.memory p) c.from_parts.ensures ∙ ap (λ (m : Contents). at m p) c.run_to_end-steps.ensures.memory ∙ runs.leaves p
    ∙ ap (λ (s : Checked). exchange (at s.load.memory) s.pairs (swap_of s.load) p) c.self.view_is

pub returns-clause-sets : goal.returns-clause-sets
returns-clause-sets c =
    let k = c.self.invariant in
    let runs = kept_ends k.before (checked_of c.self.inside.loaded c.self.inside.accept) k.swap k.items c.parts-memory.result.0 c.parts-memory.result.2 k.kept c.parts-memory.ensures.memory c.parts-memory.ensures.image in
    ap (λ (l : Load). l.memory.sets) c.from_parts.ensures ∙ ap (λ (m : Contents). m.sets) c.run_to_end-steps.ensures.memory ∙ runs.sets
    ∙ ap (λ (m : Contents). m.sets) c.parts-memory.ensures.memory ∙ ap (λ (s : Checked). s.load.memory.sets) c.self.view_is

pub returns-clause-restored : goal.returns-clause-restored
returns-clause-restored c =
    let k = c.self.invariant in
    let s : Checked = checked_of c.self.inside.loaded c.self.inside.accept in
    let runs = kept_ends k.before s k.swap k.items c.parts-memory.result.0 c.parts-memory.result.2 k.kept c.parts-memory.ensures.memory c.parts-memory.ensures.image in
    let u : Undoes s (at c.from_parts.result.memory) = undoes s k (at c.from_parts.result.memory) (λ p. ap (λ (l : Load). at l.memory p) c.from_parts.ensures ∙ ap (λ (m : Contents). at m p) c.run_to_end-steps.ensures.memory ∙ runs.leaves p) in
    (subst (λ (s : Checked). Undoes s (at c.from_parts.result.memory)) c.self.view_is u).restored

pub returns-clause-undone : goal.returns-clause-undone
returns-clause-undone c =
    let k = c.self.invariant in
    let s : Checked = checked_of c.self.inside.loaded c.self.inside.accept in
    let runs = kept_ends k.before s k.swap k.items c.parts-memory.result.0 c.parts-memory.result.2 k.kept c.parts-memory.ensures.memory c.parts-memory.ensures.image in
    let u : Undoes s (at c.from_parts.result.memory) = undoes s k (at c.from_parts.result.memory) (λ p. ap (λ (l : Load). at l.memory p) c.from_parts.ensures ∙ ap (λ (m : Contents). at m p) c.run_to_end-steps.ensures.memory ∙ runs.leaves p) in
    (subst (λ (s : Checked). Undoes s (at c.from_parts.result.memory)) c.self.view_is u).undone

pub returns-clause-sources : goal.returns-clause-sources
returns-clause-sources c =
    let k = c.self.invariant in
    let s : Checked = checked_of c.self.inside.loaded c.self.inside.accept in
    let runs = kept_ends k.before s k.swap k.items c.parts-memory.result.0 c.parts-memory.result.2 k.kept c.parts-memory.ensures.memory c.parts-memory.ensures.image in
    let u : Undoes s (at c.from_parts.result.memory) = undoes s k (at c.from_parts.result.memory) (λ p. ap (λ (l : Load). at l.memory p) c.from_parts.ensures ∙ ap (λ (m : Contents). at m p) c.run_to_end-steps.ensures.memory ∙ runs.leaves p) in
    (subst (λ (s : Checked). Undoes s (at c.from_parts.result.memory)) c.self.view_is u).sources

pub returns-clause-run : goal.returns-clause-run
returns-clause-run c =
    let k = c.self.invariant in
    let s : Checked = checked_of c.self.inside.loaded c.self.inside.accept in
    let runs = kept_ends k.before s k.swap k.items c.parts-memory.result.0 c.parts-memory.result.2 k.kept c.parts-memory.ensures.memory c.parts-memory.ensures.image in
    subst (λ (s : Checked). RunsTo s.load s.words c.from_parts.result.memory) c.self.view_is
    (runs_to s.load c.parts-memory.result.0 c.from_parts.result.memory c.parts-memory.result.2 s.words _ c.parts-memory.ensures.memory c.parts-memory.ensures.image runs
    (ap (λ (l : Load). l.memory) c.from_parts.ensures ∙ c.run_to_end-steps.ensures.memory))

pub returns-clause-others : goal.returns-clause-others
returns-clause-others c =
    let k = c.self.invariant in
    let s : Checked = checked_of c.self.inside.loaded c.self.inside.accept in
    let back : Returned = record { load = c.from_parts.result; steps = c.run_to_end-steps.result } in
    let runs = kept_ends k.before s k.swap k.items c.parts-memory.result.0 c.parts-memory.result.2 k.kept c.parts-memory.ensures.memory c.parts-memory.ensures.image in
    let u : Undoes s (at c.from_parts.result.memory) = undoes s k (at c.from_parts.result.memory) (λ p. ap (λ (l : Load). at l.memory p) c.from_parts.ensures ∙ ap (λ (m : Contents). at m p) c.run_to_end-steps.ensures.memory ∙ runs.leaves p) in
    subst (λ (s : Checked). RestoresOthers s back) c.self.view_is (restores_others s back k u)
