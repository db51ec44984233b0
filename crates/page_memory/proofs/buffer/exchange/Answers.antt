use Rattle.std.proofs.Common.{◌∙◌}
use Rattle.page_memory.proofs.Changes.{pages-exchanged, IsTable-exchanged}
use Rattle.page_memory.proofs.buffer.exchange.Goals as goal

pub returns-clause-value : goal.returns-clause-value
returns-clause-value c = λ xs. pages-exchanged xs c.args.table.now.places c.change.new.self.places c.change-2.new.self.places c.args.d c.args.s c.place_of-i.result c.place_of-j.result c.place_of-i.ensures c.place_of-j.ensures c.change.ensures.differs c.change-2.ensures.differs

pub returns-clause-table : goal.returns-clause-table
returns-clause-table c = λ xs is. IsTable-exchanged xs c.args.table.now.places c.change.new.self.places c.change-2.new.self.places c.args.d c.args.s c.place_of-i.result c.place_of-j.result c.requires.apart c.place_of-i.ensures c.place_of-j.ensures c.change.ensures.differs c.change-2.ensures.differs (c.change-2.ensures.length ∙ c.change.ensures.length) is
