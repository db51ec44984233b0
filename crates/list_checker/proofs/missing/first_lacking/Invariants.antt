use Rattle.std.proofs.Common.{◌≡◌, drop}
use Rattle.std.specs.List.{find}
use Rattle.segments.specs.Values.{pages}
use Rattle.page_memory.specs.Contents.{at}
use Rattle.segments.specs.Values.{want}
use Rattle.list_checker.specs.Crash.{lacks}
use Rattle.list_checker.proofs.missing.first_lacking.Given as goal

abbrev pub invariant-loop-i : goal.invariant-loop-i
invariant-loop-i l = find (lacks (at l.memory) (want l.segments)) (pages (drop l.i l.segments)) ≡ find (lacks (at l.memory) (want l.segments)) (pages l.segments)
