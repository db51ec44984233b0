-- A segment while its pages are written.
use Rattle.std.proofs.Common.{◌≡◌, ℕ, ◌+◌, ◌≤◌, List, [], ◌∷◌, ◌++◌, Some, None, subst, take}
use Rattle.kx_pages.specs.declared.image.Wish.{Wish}
use Rattle.kx_pages.specs.Bytes.{Mem}
use Rattle.segments.specs.Values.{SegmentValue}
use Rattle.kimage_list.specs.Load.{Entry, Move}
use Rattle.kimage_list.specs.inner.Writers.{History, Writer, StandsAt, with_destination, destination_after}
use Rattle.load_states.specs.Loads.{entries_of}
use Rattle.load_states.specs.inner.Fillings.{Fills}
use Rattle.load_states.proofs.FillSteps.{so_far, so_far-start, so_far-more, so_far-goes, start_filled}

-- segment i is written up to this page: some load stands there, and so does each load that stood before the segment
pub record Goes (ss : List SegmentValue) (i first number : ℕ) (before now : Writer) : Type 0 where
  pub memory : Mem
  pub pool : List ℕ
  pub wish : Wish
  pub stands : Fills memory pool wish ss (so_far ss i first number) now
  pub each : (M : Mem) (pool : List ℕ) (wish : Wish) → Fills M pool wish ss (entries_of (take i ss)) before → Fills M pool wish ss (so_far ss i first number) now

pub goes_begun : (ss : List SegmentValue) (i first : ℕ) (before now : Writer) (M : Mem) (pool : List ℕ) (wish : Wish) → Fills M pool wish ss (entries_of (take i ss)) before → ((h : History) → StandsAt h before → StandsAt (with_destination h first) now)
    → Goes ss i first first before now
goes_begun ss i first before now M pool wish k f = record { memory = M; pool = pool; wish = wish; stands = go M pool wish k; each = go }
  where
    go : (M : Mem) (pool : List ℕ) (wish : Wish) → Fills M pool wish ss (entries_of (take i ss)) before → Fills M pool wish ss (so_far ss i first first) now
    go M pool wish k = subst (λ es. Fills M pool wish ss es now) (so_far-start ss i first) (start_filled M pool wish ss (entries_of (take i ss)) before k first now (f k.load k.stands))

pub goes_more : (ss : List SegmentValue) (i first number : ℕ) (before now v : Writer) → first ≤ number → Goes ss i first number before now
    → ((M : Mem) (pool : List ℕ) (wish : Wish) (es : List Entry) → Fills M pool wish ss es now → destination_after None es ≡ Some number → Fills M pool wish ss (es ++ Move number ∷ []) v) → Goes ss i first (number + 1) before v
goes_more ss i first number before now v l k f = record { memory = k.memory; pool = k.pool; wish = k.wish; stands = go k.memory k.pool k.wish k.stands; each = λ M pool wish b. go M pool wish (k.each M pool wish b) }
  where
    go : (M : Mem) (pool : List ℕ) (wish : Wish) → Fills M pool wish ss (so_far ss i first number) now → Fills M pool wish ss (so_far ss i first (number + 1)) v
    go M pool wish g = subst (λ es. Fills M pool wish ss es v) (so_far-more ss i first number l) (f M pool wish (so_far ss i first number) g (so_far-goes ss i first number l))
