use Rattle.std.proofs.Common.{subst, sym}
use Rattle.relocate_machine.specs.declared.word.WordKind.TheVariants.{Source}
use Rattle.relocate_machine.specs.inner.Writes.{AreHeld, word_writes}
use Rattle.relocate_machine.proofs.Held.{word_writes-move}
use Rattle.relocate_machine.proofs.step.Machine.take_source.Goals as goal

pub move_page-requires : goal.move_page-requires
move_page-requires c =
    let inside = c.self.inside in
    let held = subst (λ r. AreHeld c.args.memory.now (word_writes r Source c.args.from)) (sym c.self.view_is) c.requires.held in
    let writes = word_writes-move (record { first = inside.first; cursor = inside.cursor; destination = inside.destination; ended = inside.ended; mode = inside.mode }) c.args.from c.if-from-ge-ADDRESS_LIMIT.false c.if-self-ge-ADDRESS_LIMIT.false in
    rw (c.page_of.ensures, c.page_of-2.ensures) (subst (AreHeld c.args.memory.now) writes held)
