use Rattle.std.proofs.Common.{subst, sym, ap, ◌∙◌}
use Rattle.kx_laws.specs.inner.Results.{Gives}
use Rattle.elf_image.specs.declared.fault.ElfFault.TheVariants as faults
use Rattle.elf_image.specs.Symbol.{entries_in}
use Rattle.elf_image.proofs.Objects.{strings_told, strings_fail}
use Rattle.elf_image.proofs.symbol.read_table.Goals as goal

pub returns-in-Ok : goal.returns-in-Ok
returns-in-Ok c =
    subst (Gives faults.Memory (λ t. t) c.read_named.result) (ap (λ n. entries_in c.args.file.now n c.args.header.now c.in-Ok.strings.now) c.len.ensures ∙ sym (strings_told c.args.file.now c.args.table.now c.args.place c.args.header.now c.in-Ok.strings.now c.in-Ok.ensures))
    c.read_named.ensures

pub returns-in-Err : goal.returns-in-Err
returns-in-Err c = strings_fail c.args.file.now c.args.table.now c.args.place c.args.header.now c.in-Err.fault c.in-Err.ensures
