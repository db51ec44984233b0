use Rattle.std.proofs.Common.{sym}
use Rattle.page_memory.specs.Contents.{zero_page}
use Rattle.page_memory.proofs.Laws.{frame_at-found, frame_at-none}
use Rattle.page_memory.proofs.Bytes.{IsBlock-zero_page}
use Rattle.page_memory.proofs.memory.Memory.bytes.Goals as goal

pub returns-in-Some-clause-value : goal.returns-in-Some-clause-value
returns-in-Some-clause-value c = sym (frame_at-found c.args.self.now.pages c.args.p c.in-Some.bytes.now c.in-Some.ensures.value)

pub returns-in-None-clause-value : goal.returns-in-None-clause-value
unfolding zero_page
returns-in-None-clause-value c = sym (frame_at-none c.args.self.now.pages c.args.p c.in-None.ensures.value)

pub returns-in-None-clause-bytes : goal.returns-in-None-clause-bytes
unfolding zero_page
returns-in-None-clause-bytes c = IsBlock-zero_page
