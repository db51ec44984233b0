use Rattle.std.proofs.Common.{Some, None, Ok, Err, refl, ap}
use Rattle.elf_image.specs.inner.Symbol.{called}
use Rattle.purgatory_link.specs.declared.fault.LinkFault.TheVariants as faults
use Rattle.purgatory_link.proofs.Pushed.{placed_value}
use Rattle.purgatory_link.proofs.symbols.value_of.Goals as goal

pub returns-in-Some : goal.returns-in-Some
returns-in-Some c = λ name.
    placed_value c.args.base c.args.starts.now c.args.index (called name c.args.symbol.now) (Ok c.address.result) (Some c.in-Some.start) c.if-symbol.false c.if-symbol-2.false (c.in-Some.ensures name) (ap Ok (c.address.ensures name))

pub returns-in-None : goal.returns-in-None
returns-in-None c = λ name.
    placed_value c.args.base c.args.starts.now c.args.index (called name c.args.symbol.now) (Err (faults.Undefined c.args.index)) None c.if-symbol.false c.if-symbol-2.false (c.in-None.ensures name) refl
