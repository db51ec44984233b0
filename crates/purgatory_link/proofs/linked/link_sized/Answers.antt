use Rattle.std.proofs.Common.{◌≡◌, length, refl, ap, sym, ◌∙◌, Ok}
use Rattle.elf_image.specs.Object.{Relocatable}
use Rattle.purgatory_link.specs.Layout.{starts, fill_up, lay}
use Rattle.purgatory_link.specs.Symbols.{names_of}
use Rattle.purgatory_link.proofs.Linking.{room_for, same_relocated, linked_fails, linked_ok}
use Rattle.purgatory_link.proofs.Meaning.{fields_by, others_by}
use Rattle.purgatory_link.specs.Link.{starts_of, unlinked_bytes}
use Rattle.purgatory_link.proofs.linked.link_sized.Goals as goal

pub relocate-requires-clause-room : goal.relocate-requires-clause-room
relocate-requires-clause-room c =
    room_for c.args.object.now c.deref-3.result.now (length c.in_ok-bytes.bytes.items)
    (c.deref-3.ensures.value ∙ c.in_ok-starts.ensures ∙ ap (starts 0) (c.deref.ensures.value ∙ ap (λ (o : Relocatable). o.sections) c.object.view_is))
    (c.in_ok-bytes.ensures.length ∙ c.requires.size)

pub returns-in-Err-clause-exact : goal.returns-in-Err-clause-exact
returns-in-Err-clause-exact c =
    linked_fails c.args.base c.args.object.now c.args.file.now c.args.size c.deref-3.result.now c.in_ok-bytes.bytes.items c.in-Err.fault
    (c.deref-3.ensures.value ∙ c.in_ok-starts.ensures ∙ ap (starts 0) (c.deref.ensures.value ∙ ap (λ (o : Relocatable). o.sections) c.object.view_is))
    (c.in_ok-bytes.ensures.bytes ∙ ap (λ l. fill_up c.args.size (lay c.args.file.now 0 l)) (c.deref-2.ensures.value ∙ ap (λ (o : Relocatable). o.sections) c.object.view_is))
    c.in-Err.ensures

pub returns : goal.returns
returns c =
    let o = c.args.object.now in
    let sts = c.deref-3.ensures.value ∙ c.in_ok-starts.ensures ∙ ap (starts 0) (c.deref.ensures.value ∙ ap (λ (o : Relocatable). o.sections) c.object.view_is) in
    let old = c.in_ok-bytes.ensures.bytes ∙ ap (λ l. fill_up c.args.size (lay c.args.file.now 0 l)) (c.deref-2.ensures.value ∙ ap (λ (o : Relocatable). o.sections) c.object.view_is) in
    let new = c.in-Ok.bytes.items in
    let long : length (unlinked_bytes o c.args.file.now c.args.size) ≡ c.args.size = ap length (sym old) ∙ c.in_ok-bytes.ensures.length in
    let room = room_for o (starts_of o) c.args.size refl c.requires.size in
    let done = same_relocated c.args.base o c.args.file.now c.args.size c.deref-3.result.now c.in_ok-bytes.bytes.items (Ok new) sts old c.in-Ok.ensures in
    record {
      exact = linked_ok c.args.base o c.args.file.now c.args.size c.deref-3.result.now c.in_ok-bytes.bytes.items new _ sts old c.in-Ok.ensures
          (c.in_ok-names.ensures ∙ ap (λ l. names_of c.args.base l c.object.inside.symbols) (c.deref-4.ensures.value ∙ sym c.deref-3.ensures.value) ∙ ap (names_of c.args.base c.deref-3.result.now) (ap (λ (o : Relocatable). o.symbols) c.object.view_is));
      fields = fields_by c.args.base o c.args.file.now c.args.size (unlinked_bytes o c.args.file.now c.args.size) new room long done;
      others = others_by c.args.base o c.args.file.now c.args.size new c.requires.object.sections room long done;
    }
