use Rattle.page_memory.proofs.Heads.{count_got}
use Rattle.page_memory.proofs.file.count_at.Goals as goal

pub returns-clause-value : goal.returns-clause-value
returns-clause-value c = count_got c.get_u64.result c.args.bytes.now c.in_ok-head.head c.in_ok-head.ensures.value c.get_u64.ensures
