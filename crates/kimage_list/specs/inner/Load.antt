-- Which pages a load takes: its entries, the requests for pages that they make, and how the pool serves them. The rules
-- and their order are this project's own; they follow the kernel's kexec core, which keeps a drawn destination page for
-- its own request (kimage_alloc_page).
-- No clause of `kexec` reaches what stands here: it serves laws, and contracts inside the crates.
use Rattle.std.specs.Prelude.{ℕ, suc, List, [], ◌∷◌}
use Rattle.kimage_list.specs.Load.{Entry, Move, Start}

-- the destination pages of these entries
abbrev pub pages_of : List Entry → List ℕ
pages_of [] = []
pages_of (Start p ∷ es) = pages_of es
pages_of (Move p ∷ es) = p ∷ pages_of es

-- how many of them are destination entries
abbrev pub starts : List Entry → ℕ
starts [] = 0
starts (Start p ∷ es) = suc (starts es)
starts (Move p ∷ es) = starts es
