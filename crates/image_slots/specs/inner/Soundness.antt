-- What holds of the slots until an image was run (this project's own).
-- No clause of `kexec` reaches what stands here: it serves laws, and contracts inside the crates.
use Rattle.std.specs.Prelude.{◌+◌, ◌≡◌, ℕ, ◌≤◌, ◌<◌, ◌^◌, ◌++◌, List, length, true, false, Option, Some}
use Rattle.kx_pages.specs.Lists.{count, sources}
use Rattle.kx_pages.specs.Spans.{Run}
use Rattle.kx_pages.specs.Bytes.{Mem}
use Rattle.kx_pages.specs.Modes.{swap_page}
use Rattle.kx_pages.specs.declared.item.Item.{Item}
use Rattle.kx_pages.specs.declared.image.Wish.{Wish}
use Rattle.segments.specs.Values.{SegmentValue, is_destination, want}
use Rattle.segments.specs.inner.Rules.{IsBare}
use Rattle.kimage_list.specs.Load.{Loading}
use Rattle.kimage_list.specs.Laying.{image_of, items, link_pages, links_of, source_pages}
use Rattle.kimage_list.specs.inner.Laying.{Holds}
use Rattle.list_checker.specs.Walk.{IsAccepted, pairs}
use Rattle.list_checker.specs.Crash.{AcceptedCrash}
use Rattle.load_states.specs.Loads.{entries_of, loading_of, memory_of}
use Rattle.load_states.specs.inner.Runs.{after_once, after_plain}
use Rattle.load_states.specs.declared.accepted.Accepted.{Accepted}
use Rattle.load_states.specs.declared.accepted.Accepted.TheVariants as accepted
use Rattle.page_pool.specs.Pages.{pool_page_limit}
use Rattle.image_slots.specs.States.{Crash, Normal, Stage, Draft, Written, Placed, State, Underway}
use Rattle.image_slots.specs.Pages.{all_pages, in_area}
use Rattle.image_slots.specs.Steps.{image_pairs, wish_of}
use Rattle.image_slots.specs.Soundness.{WhereSome}

-- the link pages and the source pages that a load lays, with their bytes
abbrev pub laid_pages : Wish → List SegmentValue → Loading → List (ℕ × List ℕ)
laid_pages wish ss l =
    link_pages (links_of wish l) (items (entries_of ss) l.pairs) ++ source_pages (want ss) l.pairs

-- the image is that of a load of its segments over its pages, and its list and sources stand in memory
pub record IsLaid (M : Mem) (n : Normal) : Type 0 where
  pub loading : Loading
  pub bare : IsBare n.segments
  pub requests : loading_of (wish_of n.image.mode) n.segments n.pages ≡ Some loading
  pub image : n.image ≡ image_of (wish_of n.image.mode) loading
  pub laid : Holds M (laid_pages (wish_of n.image.mode) n.segments loading)
  pub in_use : (x : ℕ) → count x loading.spare + count x (sources loading.pairs) ≡ count x n.pages

-- the crash kernel is in its place, in the area
pub record IsPlacedIn (area : Option Run) (M : Mem) (c : Crash) : Type 0 where
  pub accepted : AcceptedCrash M (want c.segments) c.head
  pub inside : (p : ℕ) → is_destination c.segments p ≡ true → in_area area p ≡ true

abbrev pub StageHolds : Option Run → Mem → Stage → Type 0
StageHolds area M (Draft kind list) = Unit {0}
StageHolds area M (Written n) = IsLaid M n
StageHolds area M (Placed c) = IsPlacedIn area M c

-- each page is in one place alone, and none is in the area
pub record ArePages (area : Option Run) (pages : List ℕ) : Type 0 where
  pub once : (x : ℕ) → count x pages ≤ 1
  pub few : length pages ≤ pool_page_limit
  pub below : (x : ℕ) → 1 ≤ count x pages → x < 2 ^ 34
  pub outside : (x : ℕ) → 1 ≤ count x pages → in_area area x ≡ false

-- the images stand in memory
pub record ImagesHold (s : State) : Type 0 where
  pub load : WhereSome (λ (l : Underway). StageHolds s.area s.memory l.stage) s.load
  pub normal : WhereSome (IsLaid s.memory) s.normal
  pub crash : WhereSome (IsPlacedIn s.area s.memory) s.crash

pub record IsSound (s : State) : Type 0 where
  pub pages : ArePages s.area (all_pages s)
  pub images : ImagesHold s

-- the normal image is accepted by the list that its load laid
pub record IsRunnable (M : Mem) (n : Normal) : Type 0 where
  pub list : List Item
  pub accepted :
      IsAccepted M (want n.segments) n.image.head n.image.control (swap_page n.image.mode) list
  pub same_pairs : image_pairs n ≡ pairs list

-- a load of segments over these pages is written, from memory M to memory N, and this is its image
pub record IsWritten (M : Mem) (wish : Wish) (ss : List SegmentValue) (pages : List ℕ) (N : Mem)
    (n : Normal) : Type 0 where
  pub loading : Loading
  pub requests : loading_of wish ss pages ≡ Some loading
  pub memory : (p : ℕ) → N p ≡ memory_of M wish ss loading p
  pub image : n ≡ record { image = image_of wish loading; segments = ss; pages = pages }

-- the memory that the run of an accepted list leaves
abbrev pub after_accepted : Accepted → Mem
after_accepted (accepted.Plain c) = after_plain c
after_accepted (accepted.Kept c) = after_once c
