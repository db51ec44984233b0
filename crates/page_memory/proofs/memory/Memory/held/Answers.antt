use Rattle.std.proofs.Common.{ap}
use Rattle.page_memory.specs.inner.Frames.{frame_in}
use Rattle.page_memory.proofs.Tables.{get-shown, IsSome-option_map}
use Rattle.page_memory.proofs.memory.Memory.held.Goals as goal

pub returns : goal.returns
returns c =
    let shown = get-shown (frame_in c.self.inside.frames.items) c.self.inside.table.places.entries c.args.self.now.pages c.args.p (ap (λ m. m.pages) c.self.view_is) in
    rw (c.is_some.ensures, c.get.ensures.value, shown) (IsSome-option_map _ _)
