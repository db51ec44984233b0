use Rattle.std.proofs.Common.{ap, ◌∙◌, inl, length, arith}
use Rattle.elf_image.specs.Object.{Relocatable}
use Rattle.purgatory_link.proofs.Relocating.{first_so, section_put, section_refused, all_put}
use Rattle.purgatory_link.proofs.relocate.relocate.Goals as goal

pub loop-section-init : goal.loop-section-init
loop-section-init c = record {
  so = first_so c.args.base c.args.object.now c.args.file.now c.args.starts.now c.in_ok-buffer.buffer c.args.bytes.items c.in_ok-buffer.ensures.bytes c.in_ok-buffer.ensures.taken;
  enough = c.in_ok-buffer.ensures.room;
  long = ap length c.in_ok-buffer.ensures.bytes;
}

pub loop-section-preserved : goal.loop-section-preserved
loop-section-preserved c =
    let here = c.deref-section-items.ensures.value ∙ ap (λ (o : Relocatable). o.reloc_sections) c.object.view_is in
    record {
      so = section_put c.args.base c.args.object.now c.args.file.now c.args.starts.now c.loop-section.buffer c.relocate_section.new.buffer c.args.bytes.items c.loop-section.section-index _
          (rw here at c.loop-section-test.true) (rw here at c.in-Ok.ensures.put) c.loop-section.invariant.so;
      enough = omega (arith, c.loop-section.invariant.enough, c.in-Ok.ensures.room);
      long = c.in-Ok.ensures.length ∙ c.loop-section.invariant.long;
    }

pub returns-in-Err : goal.returns-in-Err
returns-in-Err c =
    let here = c.deref-section-items.ensures.value ∙ ap (λ (o : Relocatable). o.reloc_sections) c.object.view_is in
    inl (section_refused c.args.base c.args.object.now c.args.file.now c.args.starts.now c.loop-section.buffer c.args.bytes.items c.loop-section.section-index _ c.in-Err.fault
    (rw here at c.loop-section-test.true) (rw here at c.in-Err.ensures.refused) c.loop-section.invariant.so)

pub returns : goal.returns
returns c =
    let here = c.deref-section-items.ensures.value ∙ ap (λ (o : Relocatable). o.reloc_sections) c.object.view_is in
    all_put c.args.base c.args.object.now c.args.file.now c.args.starts.now c.loop-section.buffer c.args.bytes.items c.loop-section.section-index (rw here at c.loop-section-test.false) c.loop-section.invariant.so
