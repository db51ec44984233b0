use Rattle.std.proofs.Common.{◌+◌}
use Rattle.purgatory_link.proofs.Putting.{placed_none}
use Rattle.purgatory_link.proofs.reloc.test_place.Goals as goal

pub returns-then-wide-eq0-clause-exact : goal.returns-then-wide-eq0-clause-exact
returns-then-wide-eq0-clause-exact c = λ puts i. placed_none c.args.base c.args.object.now puts c.args.reloc.now (c.args.start + c.args.reloc.now.offset) c.args.wide c.if-wide-eq0.true
