use Rattle.std.proofs.Common.{arith}
use Rattle.memory_map.proofs.PageLemmas.{span_is, span_none}
use Rattle.memory_map.proofs.pages.span_between.Goals as goal

pub returns-then-first-end : goal.returns-then-first-end
returns-then-first-end c = span_is c.new.result c.args.first c.args.end c.new.ensures.valid c.new.ensures.value c.requires (omega arith)

pub returns-else-first-end : goal.returns-else-first-end
returns-else-first-end c = span_none c.args.first c.args.end (omega arith)
