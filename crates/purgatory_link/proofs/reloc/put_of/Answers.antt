use Rattle.std.proofs.Common.{◌+◌, ap, ◌∙◌}
use Rattle.elf_image.specs.Object.{Relocatable}
use Rattle.purgatory_link.specs.Relocs.{test_place}
use Rattle.purgatory_link.proofs.Putting.{put_passed, put_unknown, put_misplaced, put_valueless, put_given}
use Rattle.purgatory_link.proofs.reloc.put_of.Goals as goal

pub returns-in-None : goal.returns-in-None
returns-in-None c = λ puts i. put_passed c.args.base c.args.object.now c.args.starts.now puts c.args.reloc.now c.in-None.ensures

pub returns-in-None-of : goal.returns-in-None-of
returns-in-None-of c = λ puts i. put_unknown c.args.base c.args.object.now c.args.starts.now puts c.args.reloc.now c.in-Some.start c.in-Some.ensures c.in-None-of.ensures

pub returns-in-Err : goal.returns-in-Err
returns-in-Err c = λ puts i.
    put_misplaced c.args.base c.args.object.now c.args.starts.now puts c.args.reloc.now c.in-Some.start c.in-Some-of.form c.in-Err.fault c.in-Some.ensures c.in-Some-of.ensures
    (c.in-Err.ensures.exact puts i ∙ ap (test_place c.args.base c.args.object.now puts c.args.reloc.now (c.in-Some.start + c.args.reloc.now.offset)) c.wide.ensures)

pub returns-in-Err-symbol_value : goal.returns-in-Err-symbol_value
returns-in-Err-symbol_value c = λ puts i.
    put_valueless c.args.base c.args.object.now c.args.starts.now puts c.args.reloc.now c.in-Some.start c.in-Some-of.form c.in-Err-symbol_value.fault c.in-Some.ensures c.in-Some-of.ensures
    (c.in-Ok.ensures.exact puts i ∙ ap (test_place c.args.base c.args.object.now puts c.args.reloc.now (c.in-Some.start + c.args.reloc.now.offset)) c.wide.ensures)
    (rw (ap (λ (o : Relocatable). o.symbols) c.object.view_is) at c.in-Err-symbol_value.ensures)

pub returns : goal.returns
returns c = λ puts i.
    c.put_value.ensures
    ∙ put_given c.args.base c.args.object.now c.args.starts.now puts c.args.reloc.now c.in-Some.start c.in-Some-of.form c.in-Ok-symbol_value.symbol c.in-Some.ensures c.in-Some-of.ensures
    (c.in-Ok.ensures.exact puts i ∙ ap (test_place c.args.base c.args.object.now puts c.args.reloc.now (c.in-Some.start + c.args.reloc.now.offset)) c.wide.ensures)
    (rw (ap (λ (o : Relocatable). o.symbols) c.object.view_is) at c.in-Ok-symbol_value.ensures)
