use Rattle.std.proofs.Common.{inl, ap, ◌∙◌}
use Rattle.elf_image.specs.Object.{Relocatable}
use Rattle.purgatory_link.proofs.Linking.{linking_rel, linking_size, linking_sized}
use Rattle.purgatory_link.proofs.linked.link.Goals as goal

pub returns-in-Err : goal.returns-in-Err
returns-in-Err c =
    record { exact = inl (linking_rel c.args.base c.args.object.now c.args.file.now c.in-Err.fault (rw (c.deref.ensures.value ∙ ap (λ (o : Relocatable). o.sections) c.object.view_is) at c.in-Err.ensures)); fields = tt; others = tt }

pub returns-in-Err-linked_size : goal.returns-in-Err-linked_size
returns-in-Err-linked_size c =
    record { exact = inl (linking_size c.args.base c.args.object.now c.args.file.now c.in-Err-linked_size.fault _ (rw (c.deref.ensures.value ∙ ap (λ (o : Relocatable). o.sections) c.object.view_is) at c.in-Ok.ensures) (rw (c.deref-2.ensures.value ∙ ap (λ (o : Relocatable). o.sections) c.object.view_is) at c.in-Err-linked_size.ensures.exact)); fields = tt; others = tt }

pub returns : goal.returns
returns c =
    record { exact = rw (linking_sized c.args.base c.args.object.now c.args.file.now c.in-Ok-linked_size.size _ (rw (c.deref.ensures.value ∙ ap (λ (o : Relocatable). o.sections) c.object.view_is) at c.in-Ok.ensures) (rw (c.deref-2.ensures.value ∙ ap (λ (o : Relocatable). o.sections) c.object.view_is) at c.in-Ok-linked_size.ensures.exact)) c.link_sized.ensures.exact; fields = c.link_sized.ensures.fields; others = c.link_sized.ensures.others }
