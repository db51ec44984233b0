use Rattle.std.proofs.Common.{◌≡◌, true, sym, ap, ◌∙◌, subst}
use Rattle.elf_image.specs.declared.reloc.Reloc.{Reloc}
use Rattle.elf_image.specs.Object.{Relocatable}
use Rattle.purgatory_link.specs.Symbols.{symbol_value}
use Rattle.purgatory_link.specs.inner.Relocs.{is_none, is_idle}
use Rattle.purgatory_link.proofs.Idle.{is_none_by}
use Rattle.purgatory_link.proofs.relocate.is_idle.Goals as goal

pub returns-then-reloc-eq-R_X86_64_NONE : goal.returns-then-reloc-eq-R_X86_64_NONE
unfolding is_idle
returns-then-reloc-eq-R_X86_64_NONE c = λ ok.
    subst (λ (r : Reloc). is_none c.args.base c.args.object.now c.args.starts.now r ≡ true) c.reloc-reloc.ensures
    (is_none_by c.args.base c.args.object.now c.args.starts.now c.reloc-reloc.result c.symbol_value.result c.if-reloc-eq-R_X86_64_NONE.true
    (c.symbol_value.ensures ∙ ap (λ (o : Relocatable). symbol_value c.args.base c.args.starts.now o.symbols c.reloc-reloc.result.symbol) c.object.view_is) (sym c.is_ok.ensures.value ∙ ok))
