use Rattle.std.proofs.Common.{◌≡◌, ◌++◌, drop}
use Rattle.kx_pages.specs.inner.Edits.{without}
use Rattle.kx_pages.proofs.page_set.cut_out.Given as goal

abbrev pub invariant-loop-s : goal.invariant-loop-s
invariant-loop-s l = l.made.items ++ without (drop l.s-index l.spans) l.span ≡ without l.fn.spans l.span
