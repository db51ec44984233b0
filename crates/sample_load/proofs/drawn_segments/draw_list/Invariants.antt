use Rattle.std.proofs.Common.{◌≡◌, ◌+◌, ◌-◌, ◌*◌, ◌≤◌, ◌++◌}
use Rattle.sample_load.specs.DrawnSegments.{segments_from}
use Rattle.sample_load.specs.Samples.{sample_segments}
use Rattle.sample_load.proofs.drawn_segments.draw_list.Given as goal

abbrev pub invariant-loop-i : goal.invariant-loop-i
invariant-loop-i l = record {
  near : l.next ≤ 4096 + 575 * l.i;
  drawn : l.list.items ++ segments_from (16 - l.i) l.i l.generator.state l.next ≡ sample_segments l.fn.number;
}
