use Rattle.std.proofs.Common.{length, refl, sym, ap, ◌∙◌}
use Rattle.std.proofs.lemmas.Option.{slice_get_read, slice_get_past}
use Rattle.std.specs.List.{slice_get}
use Rattle.elf_image.specs.Object.{Relocatable}
use Rattle.purgatory_link.specs.Relocs.{size_of}
use Rattle.purgatory_link.proofs.reloc.size_at.Goals as goal

pub returns-in-Some : goal.returns-in-Some
returns-in-Some c =
    let sections = c.deref.result.now in
    let here = c.deref.ensures.value ∙ ap (λ (o : Relocatable). o.sections) c.object.view_is in
    let is = c.in-Some.ensures.lookup in
    sym (ap (λ l. size_of (slice_get l c.args.index)) (sym here) ∙ ap size_of (slice_get_read sections (length sections) c.args.index c.in-Some.section.now refl is.3.0 is.1))

pub returns-in-None : goal.returns-in-None
returns-in-None c =
    let here = c.deref.ensures.value ∙ ap (λ (o : Relocatable). o.sections) c.object.view_is in
    sym (ap (λ l. size_of (slice_get l c.args.index)) (sym here) ∙ ap size_of (slice_get_past c.deref.result.now c.args.index c.in-None.ensures.lookup.3))
