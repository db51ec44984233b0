use Rattle.std.proofs.Common.{◌≡◌, ap, sym, ◌∙◌, true, false, Ok, inl, [], ◌∷◌, ◌++◌, arith}
use Rattle.std.specs.Prelude.{◌==◌}
use Rattle.std.proofs.lemmas.Bool.Decides.{nat_tests}
use Rattle.kx_laws.specs.Results.{unless}
use Rattle.elf_image.specs.Reloc.{rela_fault, test_symbols}
use Rattle.elf_image.proofs.Objects.{no_section, other_type, header_fails, symbol_fails, section_told}
use Rattle.elf_image.proofs.reloc.add_section.Goals as goal

pub returns-in-None : goal.returns-in-None
returns-in-None c = no_section c.args.file.now c.args.table.now c.args.symbols c.args.i c.args.out.now.items (sym c.in-None.ensures.value)

pub returns-then-header-ne-SHT_RELA : goal.returns-then-header-ne-SHT_RELA
returns-then-header-ne-SHT_RELA c =
    let e : (c.in-Some.header.kind == 4) ≡ false = grind (arith, nat_tests) in
    other_type c.args.file.now c.args.table.now c.args.symbols c.args.i c.in-Some.header c.args.out.now.items (sym c.in-Some.ensures.value) e

pub returns-in-Err : goal.returns-in-Err
returns-in-Err c =
    let e : (c.in-Some.header.kind == 4) ≡ true = grind (arith, nat_tests) in
    inl (header_fails c.args.file.now c.args.table.now c.args.symbols c.args.i c.in-Some.header c.args.out.now.items c.in-Err.fault (sym c.in-Some.ensures.value) e
    (ap (λ p. unless (rela_fault c.args.table.now p c.in-Some.header)) (sym c.place.ensures) ∙ sym c.in-Err.ensures))

pub returns-in-Err-test_symbols : goal.returns-in-Err-test_symbols
returns-in-Err-test_symbols c =
    let e : (c.in-Some.header.kind == 4) ≡ true = grind (arith, nat_tests) in
    inl (symbol_fails c.args.file.now c.args.table.now c.args.symbols c.args.i c.in-Some.header c.args.out.now.items c.in-Err-test_symbols.fault (sym c.in-Some.ensures.value) e
    (ap (λ p. unless (rela_fault c.args.table.now p c.in-Some.header)) (sym c.place.ensures) ∙ sym c.in-Ok.ensures)
    (ap (test_symbols c.args.file.now c.args.symbols) (sym c.reloc_section-section.ensures) ∙ sym c.in-Err-test_symbols.ensures))

pub returns : goal.returns
returns c =
    let e : (c.in-Some.header.kind == 4) ≡ true = grind (arith, nat_tests) in
    section_told c.args.file.now c.args.table.now c.args.symbols c.args.i c.in-Some.header c.args.out.now.items (sym c.in-Some.ensures.value) e
    (ap (λ p. unless (rela_fault c.args.table.now p c.in-Some.header)) (sym c.place.ensures) ∙ sym c.in-Ok.ensures)
    (ap (test_symbols c.args.file.now c.args.symbols) (sym c.reloc_section-section.ensures) ∙ sym c.in-Ok-test_symbols.ensures)
    ∙ ap (λ s. Ok (c.args.out.now.items ++ s ∷ [])) (sym c.reloc_section-section.ensures) ∙ ap Ok (sym c.in_ok-push.ensures.items)
