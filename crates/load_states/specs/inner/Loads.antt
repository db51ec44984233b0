-- What a load of segments lays (this project's own).
-- No clause of `kexec` reaches what stands here: it serves laws, and contracts inside the crates.
use Rattle.std.specs.Prelude.{◌≡◌, ℕ, ◌+◌, ◌<◌, ◌≤◌, ◌^◌, List, length, Some, IsSome, ◌↔◌}
use Rattle.kx_pages.specs.Lists.{count, sources}
use Rattle.kx_pages.specs.declared.image.Wish.{Wish}
use Rattle.kx_pages.specs.Bytes.{Mem}
use Rattle.kimage_list.specs.Load.{Loading}
use Rattle.kimage_list.specs.Laying.{head_of, control_of, load_mode, list_of}
use Rattle.segments.specs.Values.{SegmentValue, need, want}
use Rattle.segments.specs.inner.Shape.{AreSegments}
use Rattle.list_checker.specs.Walk.{IsAccepted}
use Rattle.kx_pages.specs.Modes.{swap_page}
use Rattle.load_states.specs.Loads.{entries_of, loading_of, memory_of}

-- A load of the segments comes to its end over a pool of these usable pages exactly where they are as many as it takes.
abbrev pub LoadsExactly : Wish → List SegmentValue → List ℕ → Type 0
LoadsExactly wish ss pool = IsSome (loading_of wish ss pool) ↔ (need wish ss ≤ length pool)

-- What a load lays is accepted: M is any memory, and the pages that the load has in use differ and have numbers below
-- 2 ^ 34.
abbrev pub LoadIsAccepted : Type 0
LoadIsAccepted =
    (M : Mem) (wish : Wish) (ss : List SegmentValue) (pool : List ℕ) (l : Loading) → AreSegments ss
    → ((x : ℕ) → count x pool ≤ 1)
    → ((x : ℕ) → 1 ≤ count x l.spare + count x (sources l.pairs) → x < 2 ^ 34)
    → loading_of wish ss pool ≡ Some l
    → IsAccepted (memory_of M wish ss l) (want ss) (head_of wish l) (control_of l)
    (swap_page (load_mode wish l)) (list_of wish (entries_of ss) l)
