use Rattle.std.proofs.Common.{ℕ, ◌-◌, ◌++◌, List, take, drop}
use Rattle.sha2.specs.Hashers.{Holds256}
use Rattle.segments.specs.Values.{want, pages}
use Rattle.purgatory_link.specs.Regions.{wanted_bytes}
use Rattle.purgatory_link.proofs.digests.feed_segments.Given as goal

abbrev pub invariant-loop-i : goal.invariant-loop-i
invariant-loop-i l =
    (m : List ℕ) → Holds256 l.initial.hasher m → Holds256 l.hasher (m ++ wanted_bytes (want l.segments) (pages (take (l.i - l.from) (drop l.from l.segments))))
