use Rattle.std.proofs.Common.{◌≡◌, ◌-◌, ◌++◌, List, length, take, drop}
use Rattle.segments.specs.Values.{SegmentValue}
use Rattle.purgatory_link.specs.Regions.{region_table}
use Rattle.purgatory_link.proofs.digests.put_regions.Given as goal

abbrev pub invariant-loop-i : goal.invariant-loop-i
invariant-loop-i l =
    (ss : List SegmentValue) → length ss ≡ l.k → l.initial.table ≡ region_table ss → l.table ≡ region_table (ss ++ take (l.i - l.from) (drop l.from l.segments))
