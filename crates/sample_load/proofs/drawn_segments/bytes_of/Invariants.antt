use Rattle.std.proofs.Common.{◌≡◌}
use Rattle.sample_load.specs.DrawnSegments.{bytes_of}
use Rattle.sample_load.proofs.drawn_segments.bytes_of.Given as goal

abbrev pub invariant-loop-j : goal.invariant-loop-j
invariant-loop-j l = l.bytes.items ≡ bytes_of l.i l.j
