use Rattle.std.proofs.Common.{◌∙◌}
use Rattle.elf_image.proofs.Ranges.{meets_loads}
use Rattle.elf_image.proofs.loads.Loads.meets_any.Goals as goal

pub returns : goal.returns
returns c = c.meets.ensures ∙ meets_loads c.args.load c.args.self.now.list.items c.args.self.now.memory c.requires.loads.ranges
