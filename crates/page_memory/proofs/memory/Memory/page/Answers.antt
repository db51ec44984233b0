use Rattle.std.proofs.Common.{ap, sym, ◌∙◌, refl}
use Rattle.std.specs.Prelude.{is_some}
use Rattle.std.proofs.lemmas.Bool.{both_ways}
use Rattle.std.specs.Option.{option_map}
use Rattle.page_memory.specs.inner.Frames.{frame_in}
use Rattle.page_memory.proofs.Tables.{get-shown}
use Rattle.page_memory.proofs.Frames.{inside_found, IsBlock-frame_in}
use Rattle.page_memory.proofs.memory.Memory.page.Goals as goal

pub frame-requires : goal.frame-requires
frame-requires c = rw c.deref.ensures.value (inside_found c.self.inside.frames.items c.self.inside.table.places c.args.p c.in-Some.place c.self.invariant c.in-Some.ensures.value).1

pub returns-in-Some-clause-value : goal.returns-in-Some-clause-value
returns-in-Some-clause-value c =
    let shown = get-shown (frame_in c.self.inside.frames.items) c.self.inside.table.places.entries c.args.self.now.pages c.args.p (ap (λ m. m.pages) c.self.view_is) in
    rw (c.frame.ensures, c.deref.ensures.value) (ap (option_map (frame_in c.self.inside.frames.items)) c.in-Some.ensures.value ∙ sym shown)

pub returns-in-Some-clause-bytes : goal.returns-in-Some-clause-bytes
returns-in-Some-clause-bytes c =
    let found = inside_found c.self.inside.frames.items c.self.inside.table.places c.args.p c.in-Some.place c.self.invariant c.in-Some.ensures.value in
    rw (c.frame.ensures, c.deref.ensures.value) (IsBlock-frame_in c.self.inside.frames.items c.in-Some.place found.1 c.self.invariant.bytes)

pub returns-in-None-clause-value : goal.returns-in-None-clause-value
returns-in-None-clause-value c =
    let shown = get-shown (frame_in c.self.inside.frames.items) c.self.inside.table.places.entries c.args.self.now.pages c.args.p (ap (λ m. m.pages) c.self.view_is) in
    ap (option_map (frame_in c.self.inside.frames.items)) c.in-None.ensures.value ∙ sym shown

pub returns-in-Some-clause-held : goal.returns-in-Some-clause-held
returns-in-Some-clause-held c = (λ _. sym (ap is_some (returns-in-Some-clause-value c)), λ _. refl)

pub returns-in-None-clause-held : goal.returns-in-None-clause-held
returns-in-None-clause-held c = (λ h. absurd (both_ways _ refl h), λ h. ap is_some (returns-in-None-clause-value c) ∙ h)
