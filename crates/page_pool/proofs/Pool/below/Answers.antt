use Rattle.std.proofs.Common.{◌≡◌, ◌∙◌, ◌<◌, Bool, true, false, get_or, length, subst, refl, ap, sym, arith}
use Rattle.std.proofs.lemmas.List.{get_or_read}
use Rattle.page_pool.specs.inner.Queue.{is_waiting}
use Rattle.kx_pages.specs.Lists.{Distinct}
use Rattle.page_pool.proofs.Queueing.{queue_begun, queue_room, queue_front, queue_joined, queue_passed, found_waiting}
use Rattle.page_pool.proofs.Pool.below.Goals.{then-is_waiting, else-is_waiting}
use Rattle.page_pool.proofs.Pool.below.Goals as goal

pub loop-place-init : goal.loop-place-init
loop-place-init c =
    let i = c.self.inside in
    record {
      lined = queue_begun i.pages.items i.queue.items i.is_drawn.items i.next i.end i.limit i.pages.items c.args.limit c.self.invariant.queued;
      first = refl;
      pages = refl;
      flags = refl;
      next = refl;
      limit = refl;
      marks = refl;
    }

pub index_mut-requires : goal.index_mut-requires
index_mut-requires c =
    let i = c.loop-place.self-inside in
    let h = c.loop-place.invariant in
    let once = subst Distinct (sym h.pages) c.self.invariant.once in
    let inside : c.loop-place.place < length i.pages.items = omega (arith, c.loop-place-test.true, c.len-place-end.ensures, ap length h.pages) in
    let told = get_or_read i.is_drawn.items c.loop-place.place c.index.result.now (omega (arith, inside, h.lined.flagged)) c.index.ensures false in
    let page = get_or_read i.pages.items c.loop-place.place c.index-in-loop-place.result.now inside c.index-in-loop-place.ensures 0 in
    let waits = found_waiting c.args.limit c.index.result.now (get_or i.is_drawn.items c.loop-place.place false) c.index-in-loop-place.result.now (get_or i.pages.items c.loop-place.place 0) c.is_waiting.result true c.is_waiting.ensures told page c.if-is_waiting.true in
    omega (arith, h.lined.room, queue_room i.pages.items i.queue.items i.is_drawn.items i.next i.end c.args.limit c.loop-place.place once inside h.lined waits)

pub loop-place-preserved : goal.loop-place-preserved
loop-place-preserved c =
    let i = c.loop-place.self-inside in
    let h = c.loop-place.invariant in
    let once = subst Distinct (sym h.pages) c.self.invariant.once in
    let inside : c.loop-place.place < length i.pages.items = omega (arith, c.loop-place-test.true, c.len-place-end.ensures, ap length h.pages) in
    let told = get_or_read i.is_drawn.items c.loop-place.place c.index.result.now (omega (arith, inside, h.lined.flagged)) c.index.ensures false in
    let page = get_or_read i.pages.items c.loop-place.place c.index-in-loop-place.result.now inside c.index-in-loop-place.ensures 0 in
    let waits : (is : Bool) → c.is_waiting.result ≡ is → is_waiting c.args.limit (get_or i.is_drawn.items c.loop-place.place false) (get_or i.pages.items c.loop-place.place 0) ≡ is = λ is e. found_waiting c.args.limit c.index.result.now (get_or i.is_drawn.items c.loop-place.place false) c.index-in-loop-place.result.now (get_or i.pages.items c.loop-place.place 0) c.is_waiting.result is c.is_waiting.ensures told page e in
    elim c.if-is_waiting.branch [
      | then-is_waiting w ↦ rw w.self-inside-is (record {
        lined = queue_joined i.pages.items i.queue.items i.is_drawn.items i.next i.end c.args.limit c.loop-place.place once inside h.lined (waits true w.if-is_waiting.true);
        first = queue_front i.pages.items i.queue.items i.is_drawn.items i.next i.end c.args.limit c.loop-place.place once inside h.lined ∙ h.first;
        pages = h.pages;
        flags = h.flags;
        next = h.next;
        limit = h.limit;
        marks = h.marks;
      })
      | else-is_waiting w ↦ rw w.self-inside-is (record {
        lined = queue_passed i.pages.items i.queue.items i.is_drawn.items i.next i.end c.args.limit c.loop-place.place once inside h.lined (waits false w.if-is_waiting.false);
        first = h.first;
        pages = h.pages;
        flags = h.flags;
        next = h.next;
        limit = h.limit;
        marks = h.marks;
      })
    ]
