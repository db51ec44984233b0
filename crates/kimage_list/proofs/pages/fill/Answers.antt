use Rattle.std.proofs.Common.{ap, ◌∙◌}
use Rattle.kx_pages.specs.Bytes.{page_of}
use Rattle.page_memory.specs.Contents.{at}
use Rattle.page_memory.proofs.Laws.{at-after_set}
use Rattle.kimage_list.proofs.Held.{held_before}
use Rattle.kimage_list.proofs.pages.fill.Goals as goal

pub returns-clause-value : goal.returns-clause-value
returns-clause-value c = ap at c.set.ensures.value ∙ at-after_set c.args.memory.now c.args.p (page_of c.args.bytes.now)

pub returns-clause-only : goal.returns-clause-only
returns-clause-only c = held_before c.args.memory.now c.set.new.self c.args.p (page_of c.args.bytes.now) (ap (λ k. k.pages) c.set.ensures.value) c.requires.held
