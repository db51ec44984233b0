use Rattle.std.proofs.Common.{◌∙◌, ap, sym, length, inl}
use Rattle.std.specs.Prelude.{position}
use Rattle.elf_image.specs.Section.{is_section_cut}
use Rattle.elf_image.proofs.Sections.{table_within, header_fails, cut_told, table_told, table_is}
use Rattle.elf_image.proofs.section.SectionTable.read.Goals as goal

pub returns-in-Err-clause-exact : goal.returns-in-Err-clause-exact
returns-in-Err-clause-exact c = header_fails c.args.file.now c.in-Err.fault (sym c.in-Err.ensures)

pub read_headers-requires : goal.read_headers-requires
read_headers-requires c = table_within c.args.file.now c.in-Ok.header (sym c.in-Ok.ensures)

pub returns-in-Some-clause-exact : goal.returns-in-Some-clause-exact
returns-in-Some-clause-exact c =
    inl
    (cut_told c.args.file.now c.in-Ok.header c.in_ok-headers.headers.items c.in-Some.i (sym c.in-Ok.ensures) c.in_ok-headers.ensures
    (ap (position (is_section_cut (length c.args.file.now))) (sym c.deref.ensures.value) ∙ sym c.in-Some.ensures))

pub returns-in-None-clause-exact : goal.returns-in-None-clause-exact
returns-in-None-clause-exact c =
    table_told c.args.file.now c.in-Ok.header c.in_ok-headers.headers.items (sym c.in-Ok.ensures) c.in_ok-headers.ensures
    (ap (position (is_section_cut (length c.args.file.now))) (sym c.deref.ensures.value) ∙ sym c.in-None.ensures)

pub returns-in-None-clause-valid : goal.returns-in-None-clause-valid
returns-in-None-clause-valid c =
    table_is c.args.file.now c.in-Ok.header c.in_ok-headers.headers.items (sym c.in-Ok.ensures) c.in_ok-headers.ensures
    (ap (position (is_section_cut (length c.args.file.now))) (sym c.deref.ensures.value) ∙ sym c.in-None.ensures)
