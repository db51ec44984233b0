-- Sets of pages, as the spans that they are made of (this project's own).
-- No clause of `kexec` reaches what stands here: it serves laws, and contracts inside the crates.
use Rattle.std.specs.Prelude.{◌≡◌, ℕ, ◌+◌, ◌<◌, false, IsTrue, List}
use Rattle.kx_pages.specs.Spans.{Run, end, in_span, in_spans}

-- a span of pages of the set that cannot be made longer
pub record IsMaximal (rs : List Run) (r : Run) : Type 0 where
  pub some : 0 < r.count
  pub inside : (q : ℕ) → IsTrue (in_span r q) → IsTrue (in_spans rs q)
  pub before : (q : ℕ) → q + 1 ≡ r.first → in_spans rs q ≡ false
  pub behind : in_spans rs (end r) ≡ false
