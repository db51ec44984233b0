use Rattle.std.proofs.Common.{◌≡◌, ap, sym, ◌∙◌, Ok, subst, length}
use Rattle.elf_image.proofs.Failing.{Fails}
use Rattle.elf_image.specs.Reloc.{read_relocs}
use Rattle.elf_image.proofs.Objects.{table_fails, object_symbols_fail, object_relocs_fail, object_told}
use Rattle.elf_image.proofs.Indexes.{object_is}
use Rattle.elf_image.proofs.object.read_object.Goals as goal

pub returns-in-Err-clause-exact : goal.returns-in-Err-clause-exact
returns-in-Err-clause-exact c = table_fails c.args.bytes.now c.in-Err.fault c.in-Err.ensures.exact

pub returns-in-Err-read_symbols-clause-exact : goal.returns-in-Err-read_symbols-clause-exact
returns-in-Err-read_symbols-clause-exact c = object_symbols_fail c.args.bytes.now c.in-Ok.table c.in-Err-read_symbols.fault c.in-Ok.ensures.exact c.in-Err-read_symbols.ensures

pub returns-in-Err-read_relocs-clause-exact : goal.returns-in-Err-read_relocs-clause-exact
returns-in-Err-read_relocs-clause-exact c =
    let n : c.len.result ≡ length c.in-Ok-read_symbols.symbols = c.len.ensures in
    object_relocs_fail c.args.bytes.now c.in-Ok.table c.in-Ok-read_symbols.symbols c.in-Err-read_relocs.fault c.in-Ok.ensures.exact c.in-Ok-read_symbols.ensures
    (subst (λ n. Fails c.in-Err-read_relocs.fault (read_relocs c.args.bytes.now c.in-Ok.table n)) n c.in-Err-read_relocs.ensures)

pub returns-clause-exact : goal.returns-clause-exact
returns-clause-exact c =
    let n : c.len.result ≡ length c.in-Ok-read_symbols.symbols = c.len.ensures in
    object_told c.args.bytes.now c.in-Ok.table c.in-Ok-read_symbols.symbols c.in-Ok-read_relocs.sections.items c.in-Ok.ensures.exact c.in-Ok-read_symbols.ensures
    (ap (read_relocs c.args.bytes.now c.in-Ok.table) (sym n) ∙ c.in-Ok-read_relocs.ensures)
    ∙ ap (λ l. Ok (record { sections = l; symbols = c.in-Ok-read_symbols.symbols; reloc_sections = c.in-Ok-read_relocs.sections.items })) (sym c.in_ok-sections.ensures)

pub returns-clause-object : goal.returns-clause-object
returns-clause-object c =
    let n : c.len.result ≡ length c.in-Ok-read_symbols.symbols = c.len.ensures in
    object_is c.args.bytes.now c.in-Ok.table _ c.in-Ok.ensures.valid c.in_ok-sections.ensures c.in-Ok-read_symbols.ensures
    (ap (read_relocs c.args.bytes.now c.in-Ok.table) (sym n) ∙ c.in-Ok-read_relocs.ensures)
