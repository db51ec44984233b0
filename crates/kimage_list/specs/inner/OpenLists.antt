-- A list while it is written (this project's own).
-- No clause of `kexec` reaches what stands here: it serves laws, and contracts inside the crates.
use Rattle.std.specs.Prelude.{ℕ, List, []}
use Rattle.kimage_list.specs.declared.open_list.OpenList.{OpenList}
use Rattle.kimage_list.specs.inner.Drafts.{Draft, Renders}

-- the list renders the draft, but for these pages in hand, which are not yet written
abbrev pub IsRenderedBut : List ℕ → OpenList → Draft → Type 0
IsRenderedBut hand list d = Renders d hand list.memory list.pool list.table list.next list.entries

-- the list renders the draft, and no page is in hand
abbrev pub IsRendered : OpenList → Draft → Type 0
IsRendered list d = IsRenderedBut [] list d
