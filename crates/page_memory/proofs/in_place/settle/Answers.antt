use Rattle.std.proofs.Common.{refl}
use Rattle.page_memory.proofs.InPlace.{AreOwned-settled, Holds-settled}
use Rattle.page_memory.proofs.in_place.settle.Goals as goal

pub returns-then-k-from-clause-owned : goal.returns-then-k-from-clause-owned
returns-then-k-from-clause-owned c =
    let slots = c.args.slots.now in
    let owners = c.args.owners.now in
    rw (c.note-then-k-from.ensures, c.note.ensures)
    (AreOwned-settled slots owners c.swap.new.self c.args.k _ c.requires.page c.requires.few refl c.if-k-from.true c.swap.ensures.len c.swap.ensures.by_index c.requires.owned)

pub returns-then-k-from-clause-holds : goal.returns-then-k-from-clause-holds
returns-then-k-from-clause-holds c = λ frame_of holds.
    rw c.exchange.ensures
    (Holds-settled frame_of c.args.frames.now c.args.owners.now c.swap.new.self c.args.k _ _ c.if-k-from.true (c.requires.owned.inside c.args.k c.requires.page) c.swap.ensures.len c.requires.room c.swap.ensures.by_index holds)
