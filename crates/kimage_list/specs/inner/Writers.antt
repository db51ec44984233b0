-- A load under way: what it was asked for so far, and where the writer stands then (this project's own).
-- No clause of `kexec` reaches what stands here: it serves laws, and contracts inside the crates.
use Rattle.std.specs.Prelude.{◌≡◌, ℕ, zero, suc, ◌+◌, ◌≤◌, List, [], ◌∷◌, ◌++◌, ◌⊎◌, length, take, slice_index, Bool, true, false, Option, Some, None, refl, if◌then◌else◌, ◌==◌}
use Rattle.std.specs.List.{AllByRecursion}
use Rattle.std.specs.Coded.{Coded, code_by, coded×, coded_ℕ, coded_option}
use Rattle.page_memory.specs.Contents.{Contents, at}
use Rattle.page_memory.specs.inner.Contents.{contents_code}
use Rattle.kx_pages.specs.Bytes.{Mem, Wants}
use Rattle.page_pool.specs.Pages.{Pages, is_filed, usable_of}
use Rattle.page_pool.specs.inner.Pages.{pages_code}
use Rattle.kx_pages.specs.Spans.{Run, in_spans, pages, AreApart}
use Rattle.kx_pages.specs.Lists.{Has, has, count, sources}
use Rattle.kx_pages.specs.declared.image.Wish.{Wish}
use Rattle.kx_pages.specs.declared.image.Mode.{Mode}
use Rattle.kx_pages.specs.Modes.{swap_page}
use Rattle.kx_pages.specs.inner.Modes.{mode_of}
use Rattle.kx_pages.proofs.Modes.{mode_of-swap_page}
use Rattle.kimage_list.specs.Load.{Loading, Entry, Start, Move, loading_after}
use Rattle.kimage_list.specs.inner.Load.{pages_of, starts}
use Rattle.kimage_list.specs.Laying.{control_of, load_mode, mode_with, links_of}
use Rattle.kimage_list.specs.inner.Opening.{laid_so_far}
use Rattle.kimage_list.specs.inner.Tables.{Slots, slots_code, slot}
use Rattle.kimage_list.specs.inner.Drafts.{Draft, Renders, IsSteady, HeadIs}
use Rattle.kimage_list.specs.inner.Counted.{UnderWay}
use Rattle.kx_pages.specs.Needs.{first_count, need_of}

-- What a load was asked for so far.
pub record History : Type 0 where
  pub before : Mem  -- memory before it
  pub pool : List ℕ  -- the pool's usable pages before it
  pub wanted : List Run  -- the destination pages
  pub segments : ℕ
  pub wish : Wish
  pub entries : List Entry  -- so far
  pub bytes : Wants  -- given so far

abbrev pub is_wanted : History → ℕ → Bool
is_wanted h = in_spans h.wanted

-- how many pages it takes
abbrev pub need : History → ℕ
need h = need_of h.wish h.segments (pages h.wanted)

-- the load with the destination entry of a segment that starts at page d
abbrev pub with_destination : History → ℕ → History
with_destination h d = record h { entries = h.entries ++ Start d ∷ [] }

-- the bytes given, with those of page d
abbrev pub with_bytes : Wants → ℕ → List ℕ → Wants
with_bytes W d bytes p = if p == d then Some bytes else W p

-- the load with the source entry of destination page d, for which these bytes were given
abbrev pub with_source : History → ℕ → List ℕ → History
with_source h d bytes =
    record h { entries = h.entries ++ Move d ∷ []; bytes = with_bytes h.bytes d bytes }

-- where the next source goes: to the page behind the last destination
abbrev pub destination_after : Option ℕ → List Entry → Option ℕ
destination_after o [] = o
destination_after o (Start p ∷ es) = destination_after (Some p) es
destination_after o (Move p ∷ es) = destination_after (Some (suc p)) es

-- What a clause sees of a writer.
pub record Writer : Type 0 where
  pub memory : Contents
  pub pool : Pages
  -- of each destination page, its source and the place of its word, once it is loaded
  pub table : Slots
  pub next : ℕ  -- the place of the next word
  pub entries : ℕ  -- how many are written
  pub head : ℕ
  pub mode : Mode
  pub control : ℕ
  pub segments_left : ℕ  -- destination entries still to be written
  pub destination : Option ℕ  -- where the next source goes

abbrev pub mode_code : Coded Mode
mode_code = code_by (Option ℕ) (coded_option coded_ℕ) swap_page mode_of mode_of-swap_page

-- stored as its fields
abbrev pub writer_code : Coded Writer
writer_code =
    code_by (Contents × (Pages × (Slots × (ℕ × (ℕ × (ℕ × (Mode × (ℕ × (ℕ × Option ℕ)))))))))
    (coded× contents_code
    (coded× pages_code
    (coded× slots_code
    (coded× coded_ℕ
    (coded× coded_ℕ
    (coded× coded_ℕ
    (coded× mode_code (coded× coded_ℕ (coded× coded_ℕ (coded_option coded_ℕ))))))))))
    (λ w. (
      w.memory,
      (
        w.pool,
        (
          w.table,
          (
            w.next,
            (w.entries, (w.head, (w.mode, (w.control, (w.segments_left, w.destination))))),
          ),
        ),
      ),
    ))
    (λ p. record {
      memory = p.0;
      pool = p.1.0;
      table = p.1.1.0;
      next = p.1.1.1.0;
      entries = p.1.1.1.1.0;
      head = p.1.1.1.1.1.0;
      mode = p.1.1.1.1.1.1.0;
      control = p.1.1.1.1.1.1.1.0;
      segments_left = p.1.1.1.1.1.1.1.1.0;
      destination = p.1.1.1.1.1.1.1.1.1;
    })
    (λ _. refl)

-- destination page d is wanted and not loaded yet
abbrev pub IsAwaited : Writer → ℕ → Type 0
IsAwaited w d = slot w.table d ≡ Some None

-- how far the load is, as the writer's steps see it
abbrev pub draft_of : History → Loading → List ℕ → List ℕ → Draft
draft_of h l first links =
    record {
      before = h.before;
      wanted = is_wanted h;
      bytes = h.bytes;
      room = take (need h) h.pool;
      first = first;
      links = links;
      entries = h.entries;
      loading = l;
    }

-- the destination pages of spans, one by one
abbrev pub pages_from : ℕ → ℕ → List ℕ
pages_from p zero = []
pages_from p (suc n) = p ∷ pages_from (suc p) n

abbrev pub pages_in : List Run → List ℕ
pages_in [] = []
pages_in (r ∷ rs) = pages_from r.first r.count ++ pages_in rs

-- what the writer keeps while the list is open
pub record IsOpen (h : History) (l : Loading) (w : Writer) : Type 0 where
  pub first : List ℕ
  pub links : List ℕ
  pub writes : Renders (draft_of h l first links) [] w.memory w.pool w.table w.next w.entries
  pub under_way : UnderWay h.pool (pages_in h.wanted) (need h) (draft_of h l first links)
  pub steady : IsSteady (draft_of h l first links)
  pub head : HeadIs links w.head
  pub first_pages : length first ≡ first_count h.wish
  pub control : w.control ≡ slice_index first 0
  pub mode : w.mode ≡ mode_with h.wish (slice_index first 1)
  pub apart : AreApart 0 h.wanted
  pub some : 1 ≤ h.segments

-- The writer stands where a load stands that was asked for this.
pub record StandsAt (h : History) (w : Writer) : Type 0 where
  pub loading : Loading
  -- usable pages, pages filed, pairs, link pages are those of the requests so far
  pub requests : loading_after (is_wanted h) h.wish h.entries h.pool ≡ Some loading
  pub left : usable_of w.pool ≡ loading.left
  pub filed : (p : ℕ) → is_filed w.pool p ≡ has p loading.filed
  -- memory is as it was, but for the list and the sources so far
  pub memory : (p : ℕ)
      → at w.memory p
      ≡ laid_so_far h.before h.bytes (links_of h.wish loading) h.entries loading.pairs p
  pub control : w.control ≡ control_of loading
  pub mode : w.mode ≡ load_mode h.wish loading
  pub segments_left : w.segments_left + starts h.entries ≡ h.segments
  pub destination : w.destination ≡ destination_after None h.entries
  -- what the next call asks of this load: it stands here, and is no invariant of the writer alone, since the clauses
  -- speak of every load that leads to this writer, and what a type keeps would speak of one
  pub inside : IsOpen h loading w

-- Where the pages of a load are: each page drawn so far is filed or in use, a filed page is a destination that is not
-- loaded yet, and a source is its own destination or no destination.
pub record KeepsPages (h : History) (l : Loading) : Type 0 where
  pub drawn : List ℕ
  pub ends : h.pool ≡ drawn ++ l.left
  pub in_use : (x : ℕ)
      → count x drawn ≡ count x l.filed + count x l.spare + count x (sources l.pairs)
  pub filed :
      AllByRecursion (λ p. (is_wanted h p ≡ true) × (Has p (pages_of h.entries) → ⊥)) l.filed
  pub sources : AllByRecursion (λ q. (q.1 ≡ q.0) ⊎ (is_wanted h q.1 ≡ false)) l.pairs
