use Rattle.std.proofs.Common.{ℕ, ◌-◌, ◌++◌, List}
use Rattle.std.specs.List.{range_with_len}
use Rattle.sha2.specs.Hashers.{Holds256}
use Rattle.segments.specs.Values.{want}
use Rattle.purgatory_link.specs.Regions.{wanted_bytes}
use Rattle.purgatory_link.proofs.digests.feed_pages.Given as goal

abbrev pub invariant-loop-number : goal.invariant-loop-number
invariant-loop-number l =
    (m : List ℕ) → Holds256 l.initial.hasher m → Holds256 l.hasher (m ++ wanted_bytes (want l.segments) (range_with_len l.first (l.number - l.first)))
