use Rattle.std.proofs.Common.{◌≡◌, ◌++◌, drop}
use Rattle.kx_pages.proofs.Gathered.{gaps_from}
use Rattle.kx_pages.proofs.page_set.gaps.Given as goal

abbrev pub invariant-loop-s : goal.invariant-loop-s
invariant-loop-s l = l.made.items ++ gaps_from l.from (drop l.s-index l.spans) ≡ gaps_from 0 l.fn.spans
