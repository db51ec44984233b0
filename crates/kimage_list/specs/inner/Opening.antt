-- The list while it is written: no done word yet, and the last link page has room or is full (this project's own).
-- No clause of `kexec` reaches what stands here: it serves laws, and contracts inside the crates.
use Rattle.std.specs.Prelude.{ℕ, suc, ◌≤◌, ◌-◌, ◌+◌, ◌*◌, ◌/◌, ◌%◌, List, [], ◌∷◌, ◌++◌, map, length, take, drop, slice_index, if◌then◌else◌, ◌==◌}
use Rattle.kx_pages.specs.Bytes.{Mem, Wants, page_of}
use Rattle.kx_pages.specs.Items.{code}
use Rattle.kx_pages.specs.Needs.{link_page_entries}
use Rattle.kx_pages.specs.declared.item.Item.{Item}
use Rattle.kx_pages.specs.declared.item.Item.TheVariants.{Link}
use Rattle.kimage_list.specs.Load.{Entry, Start, Move}
use Rattle.kimage_list.specs.Laying.{in_bytes, items, source_pages, put_all}

-- the word that leads on to the next link page, where there is one
abbrev pub onward : List ℕ → List ℕ
onward [] = []
onward (l ∷ ls) = code (Link l) ∷ []

-- each link page with its bytes so far
abbrev pub open_pages : List ℕ → List Item → List (ℕ × List ℕ)
open_pages [] is = []
open_pages (l ∷ ls) is =
    (l, page_of (in_bytes (map code (take link_page_entries is) ++ onward ls)))
    ∷ open_pages ls (drop link_page_entries is)

-- the memory of a load so far: M, but for these link pages and the sources
abbrev pub laid_so_far : Mem → Wants → List ℕ → List Entry → List (ℕ × ℕ) → Mem
laid_so_far M W links es pairs =
    put_all M (open_pages links (items es pairs) ++ source_pages W pairs)

-- where entry number n stands
abbrev pub entry_place : List ℕ → ℕ → ℕ
entry_place ls n = 4096 * slice_index ls (n / link_page_entries) + 8 * (n % link_page_entries)

-- the place of the next word, where n entries are written over these link pages
abbrev pub next_place : List ℕ → ℕ → ℕ
next_place [] n = 0
next_place (l ∷ []) n = 4096 * l + 8 * n
next_place (l ∷ (k ∷ ks)) n = next_place (k ∷ ks) (n - link_page_entries)

-- the link pages are just enough, or have room for the next entry
abbrev pub Tight : List ℕ → ℕ → Type 0
Tight ls n =
    (link_page_entries * length ls ≤ n + link_page_entries)
    × (n ≤ link_page_entries * length ls)

-- the number of page p's entry
abbrev pub number : ℕ → List Entry → ℕ
number p [] = 0
number p (Start t ∷ es) = suc (number p es)
number p (Move t ∷ es) = if t == p then 0 else suc (number p es)
