use Rattle.std.proofs.Common.{ap}
use Rattle.page_memory.specs.Contents.{Contents, swap_pages}
use Rattle.page_memory.proofs.Laws.{held-insert}
use Rattle.page_memory.specs.inner.Frames.{pages_in}
use Rattle.page_memory.proofs.Changes.{exchange_is_swap, some_in}
use Rattle.page_memory.proofs.memory.Memory.exchange_frames.Goals as goal

pub exchange-requires-clause-d : goal.exchange-requires-clause-d
exchange-requires-clause-d c = some_in c.self.inside.frames.items c.self.inside.table.places c.args.d (rw (ap (λ m. m.pages) c.self.view_is) c.requires.d)

pub exchange-requires-clause-s : goal.exchange-requires-clause-s
exchange-requires-clause-s c = some_in c.self.inside.frames.items c.self.inside.table.places c.args.s (rw (ap (λ m. m.pages) c.self.view_is) c.requires.s)

pub returns-clause-value : goal.returns-clause-value
returns-clause-value c =
    let xs = c.self.inside.frames.items in
    let t = c.self.inside.table.places in
    let ys = c.copy_frame.new.frames.items in
    let two = exchange_is_swap (pages_in xs t) (pages_in ys t) (pages_in ys c.exchange.new.table.places) c.args.d c.args.s c.args.w c.requires.apart.2 c.copy_frame.ensures.value (c.exchange.ensures.value ys) in
    rw two (ap (λ (m : Contents). swap_pages m c.args.d c.args.s c.args.w) c.self.view_is)

pub returns-clause-stay : goal.returns-clause-stay
returns-clause-stay c = λ q h.
    rw (c.exchange.ensures.value c.copy_frame.new.frames.items, c.copy_frame.ensures.value) (held-insert _ _ _ q (held-insert _ _ _ q (held-insert _ _ _ q (rw (ap (λ m. m.pages) c.self.view_is) h))))

pub invariant_of-self : goal.invariant_of-self
invariant_of-self c = c.exchange.ensures.table c.copy_frame.new.frames.items c.copy_frame.ensures.table
