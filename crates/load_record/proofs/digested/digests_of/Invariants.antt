use Rattle.std.proofs.Common.{◌≡◌, ◌++◌, drop}
use Rattle.load_record.specs.inner.File.{digests_of}
use Rattle.load_record.proofs.digested.digests_of.Given as goal

abbrev pub invariant-loop-i : goal.invariant-loop-i
invariant-loop-i l = l.digests.items ++ digests_of (drop l.i l.segments) ≡ digests_of l.segments
