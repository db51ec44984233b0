use Rattle.memory_map.proofs.Listed.{rows_listed}
use Rattle.memory_map.proofs.rows_are_listed.Goals as goal

pub returns : goal.returns
returns c = rows_listed
