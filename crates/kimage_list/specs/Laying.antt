-- What a load lays in memory: the words of its list over the link pages, as the kernel's kexec core has them
-- (kimage_entry_t), and the destinations' bytes at the sources. Which page is which is this project's own.
use Rattle.std.specs.Prelude.{ℕ, List, [], ◌∷◌, ◌++◌, map, take, drop, unwrap_or, slice_index}
use Rattle.byteorder.specs.Endian.{little_bytes}
use Rattle.kx_pages.specs.Bytes.{Mem, Wants, page_of}
use Rattle.page_memory.specs.Memory.{put}
use Rattle.kx_pages.specs.Items.{code}
use Rattle.kx_pages.specs.declared.item.Item.{Item}
use Rattle.kx_pages.specs.declared.item.Item.TheVariants.{Link, Destination, Source, Done}
use Rattle.kx_pages.specs.declared.image.Wish.{Wish}
use Rattle.kx_pages.specs.declared.image.Wish.TheVariants.{Plain, Kept}
use Rattle.kx_pages.specs.declared.image.Mode.{Mode}
use Rattle.kx_pages.specs.declared.image.Mode.TheVariants as mode
use Rattle.kx_pages.specs.declared.image.Image.{Image}
use Rattle.kimage_list.specs.Load.{Loading, Entry, Start, Move}
use Rattle.kx_pages.specs.Needs.{first_count, link_page_entries}

-- the control page, the swap page, the link pages: the pages taken for no destination, in order
abbrev pub control_of : Loading → ℕ
control_of l = slice_index l.spare 0

abbrev pub swap_of : Loading → ℕ
swap_of l = slice_index l.spare 1

abbrev pub links_of : Wish → Loading → List ℕ
links_of wish l = drop (first_count wish) l.spare

-- the entries as items, where the pages' pairs are these
abbrev pub items : List Entry → List (ℕ × ℕ) → List Item
items [] qs = []
items (Start p ∷ es) qs = Destination p ∷ items es qs
items (Move p ∷ es) [] = items es []
items (Move p ∷ es) (q ∷ qs) = Source q.1 ∷ items es qs

-- the items over these link pages, as many to a page as it has entries, and the done word
abbrev pub chain : List ℕ → List Item → List Item
chain [] is = Done 0 ∷ []
chain (l ∷ ls) is = Link l ∷ take link_page_entries is ++ chain ls (drop link_page_entries is)

-- words as bytes, eight each, the lowest first
abbrev pub in_bytes : List ℕ → List ℕ
in_bytes [] = []
in_bytes (w ∷ ws) = little_bytes 8 w ++ in_bytes ws

-- the items of a link page: as many of these as it has entries for, then the next link or the done word
abbrev pub link_page_items : List ℕ → List Item → List Item
link_page_items ls is =
    take link_page_entries is ++ take 1 (chain ls (drop link_page_entries is))

-- each link page with its bytes: its words, then zeros
abbrev pub link_pages : List ℕ → List Item → List (ℕ × List ℕ)
link_pages [] is = []
link_pages (l ∷ ls) is =
    (l, page_of (in_bytes (map code (link_page_items ls is))))
    ∷ link_pages ls (drop link_page_entries is)

-- each source page with the bytes of its destination
abbrev pub source_pages : Wants → List (ℕ × ℕ) → List (ℕ × List ℕ)
source_pages W qs = map (λ q. (q.1, unwrap_or (W q.0) [])) qs

-- memory with these pages set
abbrev pub put_all : Mem → List (ℕ × List ℕ) → Mem
put_all M [] = M
put_all M (x ∷ xs) = put (put_all M xs) x.0 x.1

-- the memory of a load: M, but for the link pages and the sources
abbrev pub lay : Mem → Wants → Wish → List Entry → Loading → Mem
lay M W wish es l =
    put_all M (link_pages (links_of wish l) (items es l.pairs) ++ source_pages W l.pairs)

-- its list, with the link that the head word is
abbrev pub list_of : Wish → List Entry → Loading → List Item
list_of wish es l = chain (links_of wish l) (items es l.pairs)

-- its head word: the first link page's address and flag
abbrev pub head_of : Wish → Loading → ℕ
head_of wish l = code (Link (slice_index (links_of wish l) 0))

abbrev pub mode_with : Wish → ℕ → Mode
mode_with Plain swap = mode.Plain
mode_with Kept swap = mode.Kept swap

abbrev pub load_mode : Wish → Loading → Mode
load_mode wish l = mode_with wish (swap_of l)

-- what running the list takes
abbrev pub image_of : Wish → Loading → Image
image_of wish l = record { head = head_of wish l; mode = load_mode wish l; control = control_of l }
