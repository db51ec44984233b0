-- Which pages a memory holds before and after a call (this project's own).
-- No clause of `kexec` reaches what stands here: it serves laws, and contracts inside the crates.
use Rattle.std.specs.Prelude.{ℕ, List, take, ◌↔◌}
use Rattle.page_memory.specs.Contents.{Contents}
use Rattle.page_memory.specs.inner.Contents.{IsHeld}
use Rattle.page_pool.specs.Pages.{Pages, usable_of}
use Rattle.kx_pages.specs.Spans.{Run, pages}
use Rattle.kx_pages.specs.Needs.{need_of}
use Rattle.kx_pages.specs.declared.image.Wish.{Wish}

-- both memories hold the same pages
abbrev pub HoldSame : Contents → Contents → Type 0
HoldSame m n = (q : ℕ) → IsHeld m q ↔ IsHeld n q

-- the pages that a load takes: of the usable ones the first, as many as it needs
abbrev pub load_pages : Pages → List Run → ℕ → Wish → List ℕ
load_pages pool wanted segments wish = take (need_of wish segments (pages wanted)) (usable_of pool)
