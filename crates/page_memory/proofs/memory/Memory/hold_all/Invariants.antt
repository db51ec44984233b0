use Rattle.std.proofs.Common.{◌≡◌, ℕ, ◌<◌, ◌⊎◌, List}
use Rattle.std.specs.Prelude.{slice_index_or}
use Rattle.kx_pages.specs.Lists.{Has}
use Rattle.page_memory.specs.Contents.{Contents, at}
use Rattle.page_memory.specs.inner.Contents.{IsHeld}
use Rattle.page_memory.proofs.memory.Memory.hold_all.Given as goal

-- the pages before this one are held, and no page beside them that was not
pub record Held (old new : Contents) (pages : List ℕ) (index : ℕ) : Type 0 where
  pub held : (k d : ℕ) → k < index → IsHeld new (slice_index_or pages k d)
  pub same : (q : ℕ) → at new q ≡ at old q
  pub sets : new.sets ≡ old.sets
  pub stay : (q : ℕ) → IsHeld old q → IsHeld new q
  pub only : (q : ℕ) → IsHeld new q → IsHeld old q ⊎ Has q pages

abbrev pub invariant-loop-page : goal.invariant-loop-page
invariant-loop-page l = Held l.fn.self l.self l.pages l.page-index
