use Rattle.std.proofs.Common.{sym, ap, ◌∙◌}
use Rattle.std.specs.List.{slice_get}
use Rattle.elf_image.proofs.Named.{symbol_there, symbol_not_there}
use Rattle.elf_image.proofs.symbol.SymbolTable.get.Goals as goal

pub returns-clause-none : goal.returns-clause-none
returns-clause-none c =
    symbol_not_there c.self.inside.strings c.self.inside.symbols.items c.args.self.now c.args.index c.symbol_at.result (sym c.self.view_is) (c.symbol_at.ensures ∙ ap (λ l. slice_get l c.args.index) c.deref.ensures.value)

pub returns-clause-some : goal.returns-clause-some
returns-clause-some c =
    symbol_there c.self.inside.strings c.self.inside.symbols.items c.args.self.now c.args.index c.symbol_at.result (sym c.self.view_is) (c.symbol_at.ensures ∙ ap (λ l. slice_get l c.args.index) c.deref.ensures.value)
