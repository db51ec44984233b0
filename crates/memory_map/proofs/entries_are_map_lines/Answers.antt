use Rattle.memory_map.proofs.Forms.{entries_are_map_lines}
use Rattle.memory_map.proofs.entries_are_map_lines.Goals as goal

pub returns : goal.returns
returns c = entries_are_map_lines
