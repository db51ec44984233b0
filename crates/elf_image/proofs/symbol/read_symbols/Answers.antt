use Rattle.std.proofs.Common.{ap, sym, ◌∙◌, Ok, subst}
use Rattle.elf_image.proofs.Failing.{Fails}
use Rattle.elf_image.specs.Symbol.{symbols_in}
use Rattle.elf_image.proofs.Objects.{no_symbols, symbols_fail, second_fails, symbols_told}
use Rattle.elf_image.proofs.symbol.read_symbols.Goals as goal

pub returns-in-None : goal.returns-in-None
returns-in-None c = no_symbols c.args.file.now c.args.table.now (sym c.in-None.ensures.value) ∙ ap Ok (sym c.none.ensures)

pub returns-in-Err : goal.returns-in-Err
returns-in-Err c =
    symbols_fail c.args.file.now c.args.table.now c.in-Some.i c.header-header.result c.in-Err.fault (sym c.in-Some.ensures.value) c.header-header.ensures.value
    (subst (λ p. Fails c.in-Err.fault (symbols_in c.args.file.now c.args.table.now p c.header-header.result)) c.place.ensures c.in-Err.ensures)

pub returns-in-Ok-refuse_second : goal.returns-in-Ok-refuse_second
returns-in-Ok-refuse_second c =
    symbols_told c.args.file.now c.args.table.now c.in-Some.i c.header-header.result c.in-Ok.symbols (sym c.in-Some.ensures.value) c.header-header.ensures.value
    (ap (λ p. symbols_in c.args.file.now c.args.table.now p c.header-header.result) (sym c.place.ensures) ∙ c.in-Ok.ensures) (sym c.in-Ok-refuse_second.ensures)

pub returns-in-Err-refuse_second : goal.returns-in-Err-refuse_second
returns-in-Err-refuse_second c =
    second_fails c.args.file.now c.args.table.now c.in-Some.i c.header-header.result c.in-Ok.symbols c.in-Err-refuse_second.fault (sym c.in-Some.ensures.value) c.header-header.ensures.value
    (ap (λ p. symbols_in c.args.file.now c.args.table.now p c.header-header.result) (sym c.place.ensures) ∙ c.in-Ok.ensures) (sym c.in-Err-refuse_second.ensures)
