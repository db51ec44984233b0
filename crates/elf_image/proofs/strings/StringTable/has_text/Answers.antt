use Rattle.std.proofs.Common.{◌∙◌, ap, drop}
use Rattle.std.specs.Str.{bytes_eq}
use Rattle.elf_image.specs.inner.Symbol.{up_to_nul, text_at}
use Rattle.elf_image.proofs.Named.{is_text}
use Rattle.elf_image.proofs.strings.StringTable.has_text.Goals as goal

pub returns : goal.returns
unfolding text_at
returns c =
    c.eq.ensures ∙ ap (λ l. bytes_eq l c.args.text.now) c.up_to_nul.ensures
    ∙ is_text c.from_place-behind.result.now c.args.text.now c.split_at.result.0.now c.min.result c.min.ensures c.split_at.ensures.front
    ∙ ap (λ l. bytes_eq (up_to_nul l) c.args.text.now) (c.from_place-behind.ensures ∙ ap (drop c.args.start) (c.deref.ensures.value ∙ c.self.view_is))
