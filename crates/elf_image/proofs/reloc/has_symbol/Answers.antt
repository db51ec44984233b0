use Rattle.std.proofs.Common.{◌/◌, ◌^◌, sym, ap, ◌∙◌}
use Rattle.std.specs.Prelude.{nat_lt}
use Rattle.elf_image.specs.declared.reloc.Rela.{Rela}
use Rattle.elf_image.specs.inner.Reloc.{has_symbol}
use Rattle.elf_image.proofs.reloc.has_symbol.Goals as goal

pub returns : goal.returns
unfolding has_symbol
returns c = λ below. ap (λ (r : Rela). nat_lt (r.info / 2 ^ 32) c.args.symbols) (sym c.read.ensures) ∙ below
