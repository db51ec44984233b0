use Rattle.page_pool.proofs.Forms.{ranges_are_pool_lines}
use Rattle.page_pool.proofs.ranges_are_pool_lines.Goals as goal

pub returns : goal.returns
returns c = ranges_are_pool_lines
