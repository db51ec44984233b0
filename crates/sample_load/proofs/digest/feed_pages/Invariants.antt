use Rattle.std.proofs.Common.{ℕ, ◌-◌, ◌++◌, List}
use Rattle.sha2.specs.Hashers.{Holds256}
use Rattle.page_memory.specs.Contents.{at}
use Rattle.sample_load.specs.Samples.{pages_of}
use Rattle.sample_load.proofs.digest.feed_pages.Given as goal

abbrev pub invariant-loop-number : goal.invariant-loop-number
invariant-loop-number l =
    (m : List ℕ) → Holds256 l.initial.hasher m → Holds256 l.hasher (m ++ pages_of (at l.memory) l.first (l.number - l.first))
