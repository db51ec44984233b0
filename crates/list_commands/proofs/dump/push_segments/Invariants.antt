use Rattle.std.proofs.Common.{◌≡◌, ◌++◌, drop, string_bytes}
use Rattle.std.specs.List.{flat_map}
use Rattle.list_commands.specs.Dump.{segment_line}
use Rattle.list_commands.proofs.dump.push_segments.Given as goal

abbrev pub invariant-loop-i : goal.invariant-loop-i
invariant-loop-i l = string_bytes l.text ++ flat_map segment_line (drop l.i l.segments) ≡ string_bytes l.fn.text ++ flat_map segment_line l.segments
