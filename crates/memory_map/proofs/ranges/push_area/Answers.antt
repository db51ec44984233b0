use Rattle.std.proofs.Common.{subst}
use Rattle.memory_map.specs.inner.Rows.{AreParts}
use Rattle.memory_map.proofs.Parts.{up_to_more, last_end}
use Rattle.memory_map.proofs.ranges.push_area.Goals as goal

pub returns-then-area-eq0-clause-order : goal.returns-then-area-eq0-clause-order
returns-then-area-eq0-clause-order c = λ n l. up_to_more c.args.area.start n c.args.made.now.items c.requires.order l

pub push_behind-requires-clause-last : goal.push_behind-requires-clause-last
push_behind-requires-clause-last c = record { end = last_end 0 0 c.pop.new.self.items c.in-Some.last (subst (λ xs. AreParts 0 0 xs) c.in-Some.ensures.items c.requires.parts) }
