-- A load of segments while they are written (this project's own).
use Rattle.std.specs.Prelude.{◌≡◌, ℕ, ◌+◌, ◌≤◌, List, take, drop, false, Some}
use Rattle.kx_pages.specs.Lists.{count, sources}
use Rattle.kx_pages.specs.declared.image.Wish.{Wish}
use Rattle.page_memory.specs.Contents.{at}
use Rattle.kx_pages.specs.Bytes.{Mem}
use Rattle.page_pool.specs.Pages.{Pages, is_filed, usable_of}
use Rattle.kimage_list.specs.Load.{Loading}
use Rattle.kimage_list.specs.Laying.{image_of, list_of}
use Rattle.kimage_list.specs.Tracking.{whole_pool}
use Rattle.kimage_list.specs.Calls.{HasDrawn}
use Rattle.segments.specs.Values.{SegmentValue, want, need}
use Rattle.list_checker.specs.Walk.{IsAccepted}
use Rattle.load_states.specs.States.{Load}
use Rattle.load_states.specs.Loads.{entries_of, loading_of, memory_of}
use Rattle.kx_pages.specs.Modes.{swap_page}

-- What a load of the segments is that is written whole, over a pool of these usable pages.
pub record IsSealed (M : Mem) (pool : List ℕ) (wish : Wish) (ss : List SegmentValue) (r : Load)
    : Type 0 where
  pub loading : Loading
  pub requests : loading_of wish ss pool ≡ Some loading
  pub once : (x : ℕ) → count x pool ≤ 1
  pub image : r.image ≡ image_of wish loading
  pub memory : (p : ℕ) → at r.memory p ≡ memory_of M wish ss loading p
  pub segments : r.segments ≡ ss
  -- of the usable pages those are left that follow the first, as many as the load takes: these are the pages in use
  pub usable : usable_of r.pool ≡ drop (need wish ss) pool
  pub in_use : (x : ℕ)
      → count x loading.spare + count x (sources loading.pairs) ≡ count x (take (need wish ss) pool)
  pub unfiled : (p : ℕ) → is_filed r.pool p ≡ false
  -- of the pool before the load, p, exactly these pages were drawn
  pub drawn : (p : Pages) → pool ≡ usable_of p → whole_pool r.pool ≡ whole_pool p
      → HasDrawn (need wish ss) p r.pool
  -- memory agrees with what it was at every other page
  pub others : (p : ℕ) → count p (take (need wish ss) pool) ≡ 0 → at r.memory p ≡ M p
  -- the list is accepted for the segments
  pub accepted : IsAccepted (at r.memory) (want ss) r.image.head r.image.control
      (swap_page r.image.mode) (list_of wish (entries_of ss) loading)
