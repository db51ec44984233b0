use Rattle.std.proofs.Common.{ap, sym, ◌∙◌, subst}
use Rattle.relocate_machine.specs.Machine.{Registers, State, next_word}
use Rattle.relocate_machine.specs.inner.Reading.{GoesOn, IsPageAt, standing}
use Rattle.relocate_machine.proofs.ReadSteps.{at_some, goes_none, stopped_at}
use Rattle.relocate_machine.proofs.step.Machine.read_words.Goals as goal
use Rattle.relocate_machine.proofs.step.Machine.read_words.Goals.{in-Some-word, in-None}

pub returns-in_default-clause-run : goal.returns-in_default-clause-run
returns-in_default-clause-run c = goes_none _

pub returns-clause-word : goal.returns-clause-word
returns-clause-word c =
    let r : Registers = record { first = c.self.inside.first; cursor = c.self.inside.cursor; destination = c.self.inside.destination; ended = c.self.inside.ended; mode = c.self.inside.mode } in
    let page : IsPageAt r c.args.memory.now c.in-Some.page.now = subst (λ r. IsPageAt r c.args.memory.now c.in-Some.page.now) (sym c.self.view_is) c.in-Some.ensures in
    elim c.match-word.branch [
      | in-Some-word w ↦
          let is = at_some _ _ _ w.in-Some-word.is c.read_page-steps.ensures.word in
          let inside = at_some _ _ _ w.in-Some-word.is c.read_page-steps.ensures.inside in
          w.word-is ∙ stopped_at c.self.inside.first c.args.memory.now c.in-Some.page.now c.self.inside.cursor w.in-Some-word.word c.read_page-steps.result.at page.first page.bytes page.near c.read_page-steps.ensures.place inside is
      | in-None w ↦ w.word-is ∙ w.fetch-word-in-None.ensures ∙ ap (λ f. next_word f c.read_page-steps.result.at.cursor c.args.memory.now) (sym page.first)
    ]

pub returns-clause-run : goal.returns-clause-run
returns-clause-run c =
    let r : Registers = record { first = c.self.inside.first; cursor = c.self.inside.cursor; destination = c.self.inside.destination; ended = c.self.inside.ended; mode = c.self.inside.mode } in
    let s : State = record { machine = r; memory = c.args.memory.now } in
    let page : IsPageAt r c.args.memory.now c.in-Some.page.now = subst (λ r. IsPageAt r c.args.memory.now c.in-Some.page.now) (sym c.self.view_is) c.in-Some.ensures in
    subst (λ r. GoesOn c.read_page-steps.result.steps (record { machine = r; memory = c.args.memory.now }) (standing s c.read_page-steps.result.at)) c.self.view_is
    (c.read_page-steps.ensures.read s page.first page.bytes)
