use Rattle.std.proofs.Common.{length, refl, sym, ap, ◌∙◌}
use Rattle.std.proofs.lemmas.Option.{slice_get_read, slice_get_past}
use Rattle.purgatory_link.specs.Layout.{is_loaded_one}
use Rattle.purgatory_link.proofs.layout.is_loaded_at.Goals as goal

pub returns-in-Some : goal.returns-in-Some
returns-in-Some c =
    let sections = c.args.sections.now in
    let is = c.in-Some.ensures.lookup in
    c.is_loaded.ensures ∙ sym (ap is_loaded_one (slice_get_read sections (length sections) c.args.index c.in-Some.section.now refl is.3.0 is.1))

pub returns-in-None : goal.returns-in-None
returns-in-None c = sym (ap is_loaded_one (slice_get_past c.args.sections.now c.args.index c.in-None.ensures.lookup.3))
