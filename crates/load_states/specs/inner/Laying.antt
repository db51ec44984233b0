-- Putting pages in their place (this project's own).
-- No clause of `kexec` reaches what stands here: it serves laws, and contracts inside the crates.
use Rattle.std.specs.Prelude.{◌≡◌, ◌⊎◌, ℕ, List, Some}
use Rattle.std.specs.List.{flat_map, range_with_len}
use Rattle.kx_pages.specs.Spans.{Run}
use Rattle.kx_pages.specs.Bytes.{Mem}
use Rattle.segments.specs.Values.{SegmentValue, want}

-- each page is as it was, or as the segments want it
abbrev pub Lays : List SegmentValue → Mem → Mem → Type 0
Lays S M N = (q : ℕ) → (N q ≡ M q) ⊎ (want S q ≡ Some (N q))

-- the pages of the spans, one span after another
abbrev pub pages_of_spans : List Run → List ℕ
pages_of_spans rs = flat_map (λ r. range_with_len r.first r.count) rs
