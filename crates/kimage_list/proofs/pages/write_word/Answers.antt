use Rattle.std.proofs.Common.{ap, ◌∙◌, ◌/◌, ◌%◌}
use Rattle.page_memory.specs.Contents.{at}
use Rattle.page_memory.specs.inner.Contents.{page_with_word}
use Rattle.page_memory.proofs.Laws.{at-with_word}
use Rattle.kimage_list.proofs.Held.{held_before}
use Rattle.kimage_list.proofs.pages.write_word.Goals as goal

pub returns-clause-value : goal.returns-clause-value
returns-clause-value c = ap at c.set_word.ensures.value ∙ at-with_word c.args.memory.now c.args.place c.args.word

pub returns-clause-only : goal.returns-clause-only
returns-clause-only c =
    let m = c.args.memory.now in
    let a = c.args.place in
    held_before m c.set_word.new.self (a / 4096) (page_with_word (at m (a / 4096)) (a % 4096) c.args.word) (ap (λ k. k.pages) c.set_word.ensures.value) c.requires.held
