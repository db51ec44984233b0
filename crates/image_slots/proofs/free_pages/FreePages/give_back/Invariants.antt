use Rattle.std.proofs.Common.{◌≡◌, ◌+◌, ◌++◌, ◌≤◌, length, take}
use Rattle.image_slots.proofs.free_pages.FreePages.give_back.Given as goal

abbrev pub invariant-loop-page : goal.invariant-loop-page
invariant-loop-page l = record {
  pool : l.self-inside.pool ≡ l.initial.self-inside.pool;
  back : l.self-inside.queue.items ≡ l.initial.self-inside.queue.items ++ take l.page-index l.pages;
  room : l.self-inside.queue.len + length l.pages ≤ l.self-inside.queue.cap + l.page-index;
}
