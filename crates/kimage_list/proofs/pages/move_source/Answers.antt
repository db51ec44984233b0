use Rattle.std.proofs.Common.{ap, ◌∙◌}
use Rattle.page_memory.specs.Contents.{at}
use Rattle.page_memory.proofs.Laws.{at-with_page}
use Rattle.page_memory.specs.inner.Memory.{set_word}
use Rattle.kx_pages.specs.Items.{code}
use Rattle.kx_pages.specs.declared.item.Item.TheVariants.{Source}
use Rattle.kimage_list.proofs.Held.{held_before}
use Rattle.kimage_list.proofs.pages.move_source.Goals as goal

pub returns-clause-value : goal.returns-clause-value
returns-clause-value c =
    c.write_word.ensures.value ∙ ap (set_word (at c.copy.new.self) c.args.place) c.source_word.ensures
    ∙ ap (λ m. set_word m c.args.place (code (Source c.args.page))) (ap at c.copy.ensures.value ∙ at-with_page c.args.memory.now c.args.page (at c.args.memory.now c.args.from))

pub returns-clause-only : goal.returns-clause-only
returns-clause-only c = λ q h.
    let m = c.args.memory.now in
    held_before m c.copy.new.self c.args.page (at m c.args.from) (ap (λ k. k.pages) c.copy.ensures.value) c.requires.held q (c.write_word.ensures.only q h)
