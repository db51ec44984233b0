use Rattle.std.proofs.Common.{ap, sym, ◌∙◌, subst}
use Rattle.page_memory.specs.Contents.{at}
use Rattle.page_memory.proofs.Laws.{frame_at-found}
use Rattle.std.specs.Option.{option_map}
use Rattle.relocate_machine.specs.Machine.{Registers}
use Rattle.relocate_machine.specs.inner.Reading.{IsPageAt}
use Rattle.relocate_machine.proofs.ReadSteps.{if_some-more, is_none}
use Rattle.relocate_machine.proofs.step.Machine.page.Goals as goal

pub returns : goal.returns
returns c =
    let r : Registers = record { first = c.self.inside.first; cursor = c.self.inside.cursor; destination = c.self.inside.destination; ended = c.self.inside.ended; mode = c.self.inside.mode } in
    if_some-more c.page.result c.page.ensures.bytes
    (λ x is block.
    let found = sym (ap (option_map (λ s. s.now)) is) ∙ c.page.ensures.value in
    let bytes = ap (at c.args.memory.now) (sym c.page_of.ensures) ∙ frame_at-found c.args.memory.now.pages c.page_of.result x.now found in
    let here : IsPageAt r c.args.memory.now x.now = record { first = is_none c.self.inside.first (sym c.if-is_some.ensures); near = c.if-self-ge-ADDRESS_LIMIT.false; bytes = bytes; whole = block.long } in
    subst (λ r. IsPageAt r c.args.memory.now x.now) c.self.view_is here)
