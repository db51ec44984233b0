-- What each value of Segments is. This project's own, and no public clause speaks of it.
-- No clause of `kexec` reaches what stands here: it serves laws, and contracts inside the crates.
use Rattle.std.specs.Prelude.{◌≡◌, ℕ, List}
use Rattle.kx_pages.specs.Spans.{Run, in_spans}
use Rattle.segments.specs.Values.{SegmentValue, is_destination}
use Rattle.segments.specs.inner.Rules.{IsBare}

-- segments that no rule refuses, and the set of their pages
pub record HasPages (ss : List SegmentValue) (rs : List Run) : Type 0 where
  pub bare : IsBare ss
  pub pages : (q : ℕ) → in_spans rs q ≡ is_destination ss q
