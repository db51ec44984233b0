use Rattle.std.proofs.Common.{ap, sym, ◌∙◌, subst}
use Rattle.page_memory.specs.Contents.{Contents, at}
use Rattle.page_memory.specs.inner.Contents.{IsHeld}
use Rattle.load_states.specs.States.{Load, Checked, swap_of}
use Rattle.load_states.specs.inner.States.{checked_of}
use Rattle.load_states.specs.Exchange.{exchange}
use Rattle.segments.specs.Values.{want}
use Rattle.load_states.specs.inner.Runs.{RunsTo}
use Rattle.load_states.proofs.Ready.{kept_ends, kept_arrives, goes_back, runs_to}
use Rattle.load_states.proofs.accepted.AcceptedKept.exec.Goals as goal

pub run_to_end-requires : goal.run_to_end-requires
run_to_end-requires c =
    let k = c.self.invariant in
    let runs = kept_ends (at c.self.inside.loaded.memory) (checked_of c.self.inside.loaded c.self.inside.accept) k.swap k.items c.parts-memory.result.0 c.parts-memory.result.2 k.kept c.parts-memory.ensures.memory c.parts-memory.ensures.image in
    record { held = runs.held; ends = runs.ends }

pub new-requires : goal.new-requires
new-requires c =
    let k = c.self.invariant in
    let s : Checked = checked_of c.self.inside.loaded c.self.inside.accept in
    let runs = kept_ends (at s.load.memory) s k.swap k.items c.parts-memory.result.0 c.parts-memory.result.2 k.kept c.parts-memory.ensures.memory c.parts-memory.ensures.image in
    goes_back s (checked_of c.from_parts.result record { words = c.run_to_end.result; links = c.self.inside.accept.links; pairs = c.self.inside.accept.pairs }) k
    (record {
      image = ap (λ (l : Load). l.image) c.from_parts.ensures ∙ c.parts-memory.ensures.image;
      segments = ap (λ (l : Load). l.segments) c.from_parts.ensures ∙ c.parts-memory.ensures.segments;
      words = c.run_to_end.ensures.steps;
      links = λ i. c.self.inside.accept.links;
      pairs = λ i. s.pairs;
      stay = λ q h. subst (λ (l : Load). IsHeld l.memory q) (sym c.from_parts.ensures) (subst (λ (m : Contents). IsHeld m q) (sym c.run_to_end.ensures.memory) (runs.stay q (subst (λ (m : Contents). IsHeld m q) (sym c.parts-memory.ensures.memory) h)));
    })
    (λ p. ap (λ (l : Load). at l.memory p) c.from_parts.ensures ∙ ap (λ (m : Contents). at m p) c.run_to_end.ensures.memory ∙ runs.leaves p)

pub returns-clause-memory : goal.returns-clause-memory
returns-clause-memory c = λ p.
    let k = c.self.invariant in
    let runs = kept_ends (at c.self.inside.loaded.memory) (checked_of c.self.inside.loaded c.self.inside.accept) k.swap k.items c.parts-memory.result.0 c.parts-memory.result.2 k.kept c.parts-memory.ensures.memory c.parts-memory.ensures.image in
    ap (λ (r : Checked). at r.load.memory p) c.new.ensures ∙ ap (λ (l : Load). at l.memory p) c.from_parts.ensures ∙ ap (λ (m : Contents). at m p) c.run_to_end.ensures.memory ∙ runs.leaves p
    ∙ ap (λ (s : Checked). exchange (at s.load.memory) s.pairs (swap_of s.load) p) c.self.view_is

pub returns-clause-arrived : goal.returns-clause-arrived
returns-clause-arrived c = λ p bytes e.
    let k = c.self.invariant in
    let s : Checked = checked_of c.self.inside.loaded c.self.inside.accept in
    let runs = kept_ends (at c.self.inside.loaded.memory) s k.swap k.items c.parts-memory.result.0 c.parts-memory.result.2 k.kept c.parts-memory.ensures.memory c.parts-memory.ensures.image in
    ap (λ (r : Checked). at r.load.memory p) c.new.ensures ∙ ap (λ (l : Load). at l.memory p) c.from_parts.ensures ∙ ap (λ (m : Contents). at m p) c.run_to_end.ensures.memory ∙ runs.leaves p
    ∙ kept_arrives s k p bytes (ap (λ (s : Checked). want s.load.segments p) c.self.view_is ∙ e)

pub returns-clause-sets : goal.returns-clause-sets
returns-clause-sets c =
    let k = c.self.invariant in
    let runs = kept_ends (at c.self.inside.loaded.memory) (checked_of c.self.inside.loaded c.self.inside.accept) k.swap k.items c.parts-memory.result.0 c.parts-memory.result.2 k.kept c.parts-memory.ensures.memory c.parts-memory.ensures.image in
    ap (λ (r : Checked). r.load.memory.sets) c.new.ensures ∙ ap (λ (l : Load). l.memory.sets) c.from_parts.ensures ∙ ap (λ (m : Contents). m.sets) c.run_to_end.ensures.memory ∙ runs.sets
    ∙ ap (λ (m : Contents). m.sets) c.parts-memory.ensures.memory ∙ ap (λ (s : Checked). s.load.memory.sets) c.self.view_is

pub returns-clause-run : goal.returns-clause-run
returns-clause-run c =
    let k = c.self.invariant in
    let s : Checked = checked_of c.self.inside.loaded c.self.inside.accept in
    let runs = kept_ends (at c.self.inside.loaded.memory) s k.swap k.items c.parts-memory.result.0 c.parts-memory.result.2 k.kept c.parts-memory.ensures.memory c.parts-memory.ensures.image in
    subst (λ (s : Checked). RunsTo s.load s.words c.new.result.load.memory) c.self.view_is
    (runs_to s.load c.parts-memory.result.0 c.new.result.load.memory c.parts-memory.result.2 s.words _ c.parts-memory.ensures.memory c.parts-memory.ensures.image runs
    (ap (λ (r : Checked). r.load.memory) c.new.ensures ∙ ap (λ (l : Load). l.memory) c.from_parts.ensures ∙ c.run_to_end.ensures.memory))
