use Rattle.std.proofs.Common.{◌∙◌, subst, sym}
use Rattle.relocate_machine.specs.inner.Writes.{AreHeld}
use Rattle.relocate_machine.proofs.Held.{writes_of-source}
use Rattle.relocate_machine.proofs.Pages.{source_others}
use Rattle.relocate_machine.proofs.step.Machine.take.Goals as goal

pub take_source-requires-clause-held : goal.take_source-requires-clause-held
take_source-requires-clause-held c =
    let fetched = sym c.in-Ok.is ∙ c.requires.word in
    rw (c.address-to.ensures)
    (subst (AreHeld c.args.memory.now) (writes_of-source (record { machine = c.args.self.now; memory = c.args.memory.now }) c.in-Ok.word fetched c.in-Source.ensures) c.requires.held)

pub returns-in-Source-clause-others : goal.returns-in-Source-clause-others
returns-in-Source-clause-others c =
    let fetched = sym c.in-Ok.is ∙ c.requires.word in
    source_others (record { machine = c.args.self.now; memory = c.args.memory.now }) c.in-Ok.word c.address-to.result _ fetched c.in-Source.ensures c.address-to.ensures c.take_source.ensures
