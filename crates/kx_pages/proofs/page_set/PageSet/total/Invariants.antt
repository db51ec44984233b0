use Rattle.std.proofs.Common.{◌≡◌, ◌+◌, drop}
use Rattle.kx_pages.specs.Spans.{pages}
use Rattle.kx_pages.proofs.page_set.PageSet.total.Given as goal

abbrev pub invariant-loop-s : goal.invariant-loop-s
invariant-loop-s l = l.total + pages (drop l.s-index l.s-items) ≡ pages l.self
