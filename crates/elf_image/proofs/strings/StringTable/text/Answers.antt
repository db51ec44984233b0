use Rattle.std.proofs.Common.{◌∙◌, ap, drop}
use Rattle.elf_image.specs.inner.Symbol.{up_to_nul, text_at}
use Rattle.elf_image.proofs.strings.StringTable.text.Goals as goal

pub returns : goal.returns
unfolding text_at
returns c = c.up_to_nul.ensures ∙ ap up_to_nul (c.from_place.ensures ∙ ap (drop c.args.start) (c.deref.ensures.value ∙ c.self.view_is))
