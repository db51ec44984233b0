use Rattle.std.proofs.Common.{arith}
use Rattle.elf_image.proofs.Ranges.{none_more, range_more}
use Rattle.elf_image.proofs.loads.add_memory.Goals as goal

pub returns-then-load-eq0 : goal.returns-then-load-eq0
returns-then-load-eq0 c = none_more c.args.load c.args.memory.now (omega arith)

pub returns : goal.returns
returns c = range_more c.args.load c.args.memory.now c.add.new.self (omega arith) c.in_ok-add.ensures.ranges
