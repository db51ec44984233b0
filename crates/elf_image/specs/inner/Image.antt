-- The image of an executable: which bytes stand at which addresses (ELF gABI, chapter 5, Program Loading), and the
-- segments that hold them, one for each run of pages (this project's own). A page has 4,096 bytes.
-- No clause of `kexec` reaches what stands here: it serves laws, and contracts inside the crates.
use Rattle.std.specs.Prelude.{◌≡◌, ℕ, ◌/◌, Bool, List}
use Rattle.kx_pages.specs.Spans.{Run, in_spans, AreApart}
use Rattle.segments.specs.Values.{SegmentValue}

-- the pages of a segment
abbrev pub run_of : SegmentValue → Run
run_of s = record { first = s.mem / 4096; count = s.memsz / 4096 }

-- the numbers that pass are those of the runs, which rise, have numbers, and neither meet nor touch
pub record AreRuns (f : ℕ → Bool) (rs : List Run) : Type 0 where
  pub apart : AreApart 0 rs
  pub numbers : (p : ℕ) → in_spans rs p ≡ f p
