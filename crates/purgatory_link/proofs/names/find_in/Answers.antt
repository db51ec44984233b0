use Rattle.purgatory_link.specs.declared.names.Name.{Name}
use Rattle.purgatory_link.proofs.Naming.{symbol_found, symbol_later, symbol_none}
use Rattle.purgatory_link.proofs.names.find_in.Goals as goal

pub returns-then-has_text : goal.returns-then-has_text
returns-then-has_text c =
    let d : Name = record { name = 0; address = 0; size = 0 } in
    symbol_found c.args.strings.now c.args.list.now c.args.text.now c.loop-entry.entry-index d c.loop-entry-test.true c.if-has_text.ensures c.loop-entry.invariant

pub loop-entry-preserved : goal.loop-entry-preserved
loop-entry-preserved c =
    let d : Name = record { name = 0; address = 0; size = 0 } in
    symbol_later c.args.strings.now c.args.list.now c.args.text.now c.loop-entry.entry-index d c.loop-entry-test.true c.if-has_text.ensures c.loop-entry.invariant

pub returns : goal.returns
returns c = symbol_none c.args.strings.now c.args.list.now c.args.text.now c.loop-entry.entry-index c.loop-entry-test.false c.loop-entry.invariant
