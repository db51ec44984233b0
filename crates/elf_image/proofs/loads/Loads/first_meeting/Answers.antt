use Rattle.std.proofs.Common.{sym, ◌∙◌}
use Rattle.elf_image.proofs.Walk.{position-none}
use Rattle.elf_image.specs.Loads.{loads_meet}
use Rattle.elf_image.proofs.loads.Loads.first_meeting.Goals as goal

pub returns-else-meets_any : goal.returns-else-meets_any
returns-else-meets_any c = sym (position-none (loads_meet c.args.load) c.args.self.now.list.items (sym c.meets_any.ensures ∙ c.if-meets_any.false))
