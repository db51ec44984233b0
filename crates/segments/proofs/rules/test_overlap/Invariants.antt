use Rattle.std.proofs.Common.{◌≡◌, take, drop}
use Rattle.segments.specs.Rules.{overlap_after, overlap}
use Rattle.segments.proofs.rules.test_overlap.Given as goal

abbrev pub invariant-loop-i : goal.invariant-loop-i
invariant-loop-i l = overlap_after (take l.i l.list) (drop l.i l.list) ≡ overlap l.list
