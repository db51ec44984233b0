-- What is made before a list is written (this project's own).
-- No clause of `kexec` reaches what stands here: it serves laws, and contracts inside the crates.
use Rattle.std.specs.Prelude.{◌≡◌, ℕ, ◌<◌, ◌^◌, List, slice_index}
use Rattle.page_memory.specs.Contents.{Contents}
use Rattle.page_memory.specs.inner.Contents.{IsHeld}
use Rattle.kx_pages.specs.Spans.{Run, in_spans}
use Rattle.kimage_list.specs.inner.Tables.{Slots, slot, fresh_slot}

-- the table has these pages, none of them loaded
pub record IsFresh (wanted : List Run) (table : Slots) : Type 0 where
  pub each : (p : ℕ) → slot table p ≡ fresh_slot (in_spans wanted p)

-- the first n of these pages are held
pub record AreHeld (n : ℕ) (pages : List ℕ) (m : Contents) : Type 0 where
  pub held : (k : ℕ) → k < n → IsHeld m (slice_index pages k)
  pub below : (k : ℕ) → k < n → slice_index pages k < 2 ^ 34
