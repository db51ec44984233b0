use Rattle.std.proofs.Common.{◌≡◌, sym, ap, ◌∙◌}
use Rattle.std.specs.Prelude.{filter}
use Rattle.page_memory.specs.File.{is_stored, stored_pages}
use Rattle.page_memory.specs.inner.Frames.{stored_in, frame_in}
use Rattle.page_memory.proofs.Stored.{entries-pages_by}
use Rattle.page_memory.proofs.memory.Memory.into_file.Goals as goal

pub returns-clause-file : goal.returns-clause-file
returns-clause-file c =
    let same : stored_pages c.args.self ≡ stored_in c.self.inside.frames.items c.self.inside.table.places = ap stored_pages (sym c.self.view_is) ∙ ap (filter is_stored) (entries-pages_by (frame_in c.self.inside.frames.items) c.self.inside.table.places.entries c.file_in_place.ensures.ordered) in
    let h = c.file_in_place.ensures.file in
    rw same h

pub returns-clause-heavy : goal.returns-clause-heavy
returns-clause-heavy c =
    let same : stored_pages c.args.self ≡ stored_in c.self.inside.frames.items c.self.inside.table.places = ap stored_pages (sym c.self.view_is) ∙ ap (filter is_stored) (entries-pages_by (frame_in c.self.inside.frames.items) c.self.inside.table.places.entries c.file_in_place.ensures.ordered) in
    let h = c.file_in_place.ensures.heavy in
    rw same h
