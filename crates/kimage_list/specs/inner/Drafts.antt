-- A list under way: what was asked for so far, and what stands in memory, pool and table (this project's own).
-- No clause of `kexec` reaches what stands here: it serves laws, and contracts inside the crates.
use Rattle.std.specs.Prelude.{◌≡◌, ℕ, ◌+◌, ◌*◌, ◌/◌, ◌%◌, ◌<◌, ◌≤◌, ◌^◌, ◌⊎◌, List, [], ◌∷◌, ◌++◌, length, take, Bool, true, false, Option, Some, None, if◌then◌else◌, ◌==◌}
use Rattle.std.specs.List.{AllByRecursion}
use Rattle.kx_pages.specs.Bytes.{page_of, Mem, Wants}
use Rattle.page_memory.specs.Contents.{Contents, at}
use Rattle.page_memory.specs.inner.Contents.{IsHeld}
use Rattle.page_memory.specs.Memory.{put}
use Rattle.page_memory.specs.inner.Memory.{set_word}
use Rattle.page_pool.specs.Pages.{Pages}
use Rattle.kx_pages.specs.Items.{code}
use Rattle.kx_pages.specs.Lists.{count, destinations, sources}
use Rattle.kx_pages.specs.Needs.{link_page_entries}
use Rattle.kx_pages.specs.declared.item.Item.TheVariants.{Source, Link}
use Rattle.kimage_list.specs.declared.taking.MovedPage.{MovedPage}
use Rattle.kimage_list.specs.Load.{Loading, Request, Entry, Start, Move, begun, take_page, give_page}
use Rattle.kimage_list.specs.inner.Load.{pages_of}
use Rattle.kimage_list.specs.Laying.{items, source_pages, link_pages, put_all}
use Rattle.kimage_list.specs.inner.Laying.{Holds}
use Rattle.kimage_list.specs.inner.Opening.{open_pages, entry_place, next_place, Tight, number}
use Rattle.kimage_list.specs.inner.Tables.{Slots, slot, place_in}
use Rattle.kimage_list.specs.inner.Tracking.{Tracks}

abbrev pub one : ℕ → ℕ → ℕ
one x y = if y == x then 1 else 0

-- how often x is filed or in use
abbrev pub uses : ℕ → Loading → ℕ
uses x l = count x l.filed + count x l.spare + count x (sources l.pairs)

-- how often x is left, filed or in use
abbrev pub amount : ℕ → Loading → ℕ
amount x l = count x l.left + count x l.filed + count x l.spare + count x (sources l.pairs)

-- each source is its own destination or no destination
abbrev pub IsHome : (ℕ → Bool) → ℕ × ℕ → Type 0
IsHome D q = (q.1 ≡ q.0) ⊎ (D q.1 ≡ false)

pub record Draft : Type 0 where
  pub before : Mem  -- memory before the load
  pub wanted : ℕ → Bool
  pub bytes : Wants
  pub room : List ℕ  -- the pages that the load may draw
  pub first : List ℕ  -- the control page, and the swap page
  pub links : List ℕ
  pub entries : List Entry
  pub loading : Loading

-- Memory, pool, table, the next place and the number of entries render a draft: the pages in hand are taken, and not yet
-- written.
pub record Renders (d : Draft) (hand : List ℕ) (memory : Contents) (pool : Pages) (table : Slots)
    (next entries : ℕ) : Type 0 where
  pub tracks : Tracks d.wanted d.loading pool table
  pub order : destinations d.loading.pairs ≡ pages_of d.entries
  pub spare : d.loading.spare ≡ d.first ++ d.links
  pub tight : Tight d.links (length d.entries)
  pub homes : AllByRecursion (IsHome d.wanted) d.loading.pairs
  pub once : (x : ℕ) → amount x d.loading + count x hand ≤ 1
  pub within : (x : ℕ) → uses x d.loading + count x hand ≤ count x d.room
  pub held : (x : ℕ) → 1 ≤ count x d.room → IsHeld memory x
  pub below : (x : ℕ) → 1 ≤ count x d.room → x < 2 ^ 34
  pub list : Holds (at memory) (open_pages d.links (items d.entries d.loading.pairs))
  pub loaded : Holds (at memory) (source_pages d.bytes d.loading.pairs)
  pub others : (x : ℕ) → count x d.links + count x (sources d.loading.pairs) + count x hand ≡ 0
      → at memory x ≡ d.before x
  pub places : (x a : ℕ) → place_in (slot table x) ≡ Some a
      → a ≡ entry_place d.links (number x d.entries)
  pub place : next ≡ next_place d.links (length d.entries)
  pub many : entries ≡ length d.entries

-- taking gives t, and draws no page past the room
pub record CanTake (d : Draft) (r : Request) (t : ℕ × Loading) : Type 0 where
  pub gives : take_page d.wanted r d.loading ≡ Some t
  pub within : (x : ℕ) → uses x t.1 + one x t.0 ≤ count x d.room

-- an exchange can be made in this memory
abbrev pub CanMove : Option MovedPage → Contents → Type 0
CanMove None m = Unit {0}
CanMove (Some v) m =
    (v.place < 2 ^ 46) × (v.place % 8 ≡ 0) × IsHeld m v.page × IsHeld m (v.place / 4096)

-- memory after the exchange that freed page s
abbrev pub exchange : Mem → Option MovedPage → ℕ → Mem
exchange N None s = N
exchange N (Some v) s = set_word (put N v.page (N s)) v.place (code (Source v.page))

-- the draft with page t.0 as its next link page
abbrev pub with_link : Draft → ℕ × Loading → Draft
with_link d t = record d { loading = give_page None t; links = d.links ++ t.0 ∷ [] }

-- a link page is wanted before the next entry
abbrev pub IsFull : Draft → Type 0
IsFull d = length d.entries ≡ link_page_entries * length d.links

-- no link page is taken ahead of its entries
abbrev pub IsSteady : Draft → Type 0
IsSteady d = link_page_entries * length d.links < length d.entries + link_page_entries

-- the last link page has room
abbrev pub HasRoom : Draft → Type 0
HasRoom d = length d.entries < link_page_entries * length d.links

-- e is d with room for one more entry
abbrev pub RoomBy : Bool → Draft → Draft → Type 0
RoomBy true d e = (t : ℕ × Loading) × CanTake d None t × (e ≡ with_link d t)
RoomBy false d e = e ≡ d

abbrev pub Room : Draft → Draft → Type 0
Room d e = IsSteady d × RoomBy (length d.entries % link_page_entries == 0) d e

-- with the entry of a segment's start
abbrev pub with_start : Draft → ℕ → Draft
with_start d p = record d { entries = d.entries ++ Start p ∷ [] }

-- with page p loaded from the page that was taken
abbrev pub with_move : Draft → ℕ → ℕ × Loading → Draft
with_move d p t = record d { loading = give_page (Some p) t; entries = d.entries ++ Move p ∷ [] }

-- page p is wanted, not yet loaded, and to have these bytes
pub record IsNext (d : Draft) (p : ℕ) (bytes : List ℕ) : Type 0 where
  pub wanted : d.wanted p ≡ true
  pub new : count p (pages_of d.entries) ≡ 0
  pub same : d.bytes p ≡ Some (page_of bytes)

abbrev pub HasLink : Draft → Type 0
HasLink d = 1 ≤ length d.links

-- the memory that this draft lays
abbrev pub laid_by : Draft → Mem
laid_by d =
    put_all d.before
    (link_pages d.links (items d.entries d.loading.pairs)
    ++ source_pages d.bytes d.loading.pairs)

-- the head is the first link page's address and flag
abbrev pub HeadIs : List ℕ → ℕ → Type 0
HeadIs [] h = Unit {0}
HeadIs (l ∷ ls) h = h ≡ code (Link l)

-- with one more page before the link pages
abbrev pub with_first : Draft → ℕ × Loading → Draft
with_first d t = record d { loading = give_page None t; first = d.first ++ t.0 ∷ [] }

-- nothing is written yet
abbrev pub initial : Mem → (ℕ → Bool) → Wants → ℕ → List ℕ → Draft
initial M D W need pool =
    record {
      before = M;
      wanted = D;
      bytes = W;
      room = take need pool;
      first = [];
      links = [];
      entries = [];
      loading = begun pool;
    }
