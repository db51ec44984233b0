use Rattle.std.proofs.Common.{◌≡◌, ◌-◌, ◌+◌}
use Rattle.std.specs.List.{find, range_with_len}
use Rattle.page_memory.specs.Contents.{at}
use Rattle.segments.specs.Values.{want}
use Rattle.list_checker.specs.Crash.{lacks}
use Rattle.list_checker.proofs.missing.lacking_in_run.Given as goal

abbrev pub invariant-loop-n : goal.invariant-loop-n
invariant-loop-n l = find (lacks (at l.memory) (want l.segments)) (range_with_len l.n (l.first + l.count - l.n)) ≡ find (lacks (at l.memory) (want l.segments)) (range_with_len l.fn.run.first l.fn.run.count)
