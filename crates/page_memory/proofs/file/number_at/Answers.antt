use Rattle.page_memory.proofs.Heads.{number_got}
use Rattle.page_memory.proofs.file.number_at.Goals as goal

pub returns : goal.returns
returns c = number_got c.get_u64.result c.args.bytes.now c.in-Some.number c.in-Some.ensures.value c.get_u64.ensures
