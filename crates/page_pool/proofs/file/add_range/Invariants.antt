use Rattle.std.proofs.Common.{◌≡◌, ◌++◌}
use Rattle.std.specs.List.{range_with_len}
use Rattle.page_pool.proofs.file.add_range.Given as goal

abbrev pub invariant-loop-i : goal.invariant-loop-i
invariant-loop-i l = l.pages.items ≡ l.fn.pages.items ++ range_with_len l.first l.i
