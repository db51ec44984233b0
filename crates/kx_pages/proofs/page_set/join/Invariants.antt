use Rattle.std.proofs.Common.{◌≡◌, ◌++◌, drop}
use Rattle.kx_pages.specs.inner.Edits.{join, with_rest}
use Rattle.kx_pages.proofs.page_set.join.Given as goal

abbrev pub invariant-loop-s : goal.invariant-loop-s
invariant-loop-s l = l.made.items ++ with_rest l.rest (drop l.s-index l.spans) ≡ join l.fn.spans l.fn.span
