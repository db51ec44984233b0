-- The link pages of a list, by its words (this project's own).
-- No clause of `kexec` reaches what stands here: it serves laws, and contracts inside the crates.
use Rattle.std.specs.Prelude.{ℕ, List, [], ◌∷◌, ◌++◌, take, drop}
use Rattle.kx_pages.specs.Bytes.{page_of}
use Rattle.kx_pages.specs.Needs.{link_page_entries}
use Rattle.kimage_list.specs.Laying.{in_bytes}
use Rattle.resident_planner.specs.Laid.{plan_head}
use Rattle.resident_planner.specs.declared.link_pages.LinkPage.{LinkPage}

-- each link page with its bytes: as many words as it has entries, the word that leads on, and zeros
abbrev pub word_pages : List ℕ → List ℕ → List (ℕ × List ℕ)
word_pages [] ws = []
word_pages (l ∷ ls) ws =
    (l, page_of (in_bytes (take link_page_entries ws ++ plan_head ls ∷ [])))
    ∷ word_pages ls (drop link_page_entries ws)

-- the page of a link page and its bytes
abbrev pub laid_page : LinkPage → ℕ × List ℕ
laid_page s = (s.page, page_of s.bytes.items)
