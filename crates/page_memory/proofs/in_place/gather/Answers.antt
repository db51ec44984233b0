use Rattle.std.proofs.Common.{◌<◌, ◌/◌, length, ◌∙◌, arith, ℕ}
use Rattle.std.proofs.lemmas.List.{length-map}
use Rattle.page_memory.specs.inner.InPlace.{slots_of}
use Rattle.page_memory.proofs.InPlace.{arrangement_gathers, slots_below}
use Rattle.page_memory.proofs.in_place.gather.Goals as goal

pub owners_of-requires-clause-inside : goal.owners_of-requires-clause-inside
owners_of-requires-clause-inside c =
    rw (c.deref.ensures.value, c.in_ok-slots.ensures) (slots_below c.args.pages.now (length c.args.frames.now) c.args.count c.requires.slots.inside c.requires.slots.slots c.requires.room)

pub returns : goal.returns
returns c = λ j below.
    let slots = slots_of c.args.pages.now in
    let inside : j < length slots = omega (arith, below, length-map c.args.pages.now (λ (e : ℕ × ℕ). e.1 / 4104)) in
    arrangement_gathers c.args.frames.now c.arrange.new.frames c.deref.result.now c.deref_mut.result.now slots c.in_ok-owners.owners.items c.deref_mut-2.result.now (c.deref.ensures.value ∙ c.in_ok-slots.ensures) (c.deref_mut.ensures.value ∙ c.in_ok-slots.ensures) c.deref_mut-2.ensures.value c.in_ok-owners.ensures.back c.arrange.ensures j inside
