use Rattle.std.proofs.lemmas.Bool.{eq-eqb, ne_eqb}
use Rattle.memory_map.proofs.Index.{other_row, ram_row}
use Rattle.memory_map.proofs.reader.index_row.Goals as goal

pub add-requires-clause-apart : goal.add-requires-clause-apart
add-requires-clause-apart c = c.requires.apart (eq-eqb c.args.row.kind 1 c.if-row-ne1.false)

pub returns-then-row-ne1 : goal.returns-then-row-ne1
returns-then-row-ne1 c = λ rows is. other_row rows c.args.ram.now c.args.row is (ne_eqb c.args.row.kind 1 c.if-row-ne1.true)

pub returns : goal.returns
returns c = λ rows is. ram_row rows c.args.ram.now c.add.new.self c.args.row is (eq-eqb c.args.row.kind 1 c.if-row-ne1.false) c.in_ok-add.ensures.ranges
