use Rattle.std.proofs.Common.{◌≡◌, take}
use Rattle.page_pool.specs.inner.Queue.{IsQueue}
use Rattle.page_pool.proofs.Pool.below.Given as goal

abbrev pub invariant-loop-place : goal.invariant-loop-place
invariant-loop-place l = record {
  lined : IsQueue l.self-inside.pages.items l.self-inside.queue.items l.self-inside.is_drawn.items l.self-inside.next l.self-inside.end l.limit (take l.place l.self-inside.pages.items);
  first : take l.self-inside.next l.self-inside.queue.items ≡ take l.initial.self-inside.next l.initial.self-inside.queue.items;
  pages : l.self-inside.pages.items ≡ l.initial.self-inside.pages.items;
  flags : l.self-inside.is_drawn.items ≡ l.initial.self-inside.is_drawn.items;
  next : l.self-inside.next ≡ l.initial.self-inside.next;
  limit : l.self-inside.limit ≡ l.limit;
  marks : l.self-inside.marks ≡ l.initial.self-inside.marks;
}
