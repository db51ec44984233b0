-- What is claimed of loads, in the clauses of laws.rt (this project's own): taking never fails, each call can be made,
-- and all is drawn in the end.
-- No clause of `kexec` reaches what stands here: it serves laws, and contracts inside the crates.
use Rattle.std.specs.Prelude.{◌≡◌, ℕ, ◌+◌, ◌<◌, ◌≤◌, List, [], ◌∷◌, ◌++◌, length, take, drop, Bool, true, Some, None, not, filter}
use Rattle.kx_pages.specs.Bytes.{Mem, Wants}
use Rattle.kx_pages.specs.Lists.{Has, count}
use Rattle.kimage_list.specs.Load.{Loading, Request, begun, take_page, give_page, serve, Entry, loading_after}
use Rattle.kimage_list.specs.inner.Load.{pages_of}
use Rattle.kimage_list.specs.inner.Drafts.{Draft, CanTake, IsSteady, HasRoom, Room, initial, with_first, with_start, with_move}
use Rattle.kx_pages.specs.declared.image.Wish.{Wish}
use Rattle.kimage_list.specs.inner.Counted.{UnderWay, Counts, Allowed}
use Rattle.kx_pages.specs.Needs.{first_count, link_pages_for}

-- Taking never fails below the need, and draws no page past it.
abbrev pub AlwaysTakes : Type 0
AlwaysTakes =
    (pool all : List ℕ) (need : ℕ) (d : Draft) (r : Request) → Counts pool all d
    → need ≤ length pool → d.room ≡ take need pool
    → Allowed r all (pages_of d.entries) (length d.loading.spare) need
    → (t : ℕ × Loading) × CanTake d r t

-- A request that is taken and given is one more request served.
abbrev pub OneMore : Type 0
OneMore =
    (D : ℕ → Bool) (rs : List Request) (pool : List ℕ) (r : Request) (l : Loading) (t : ℕ × Loading)
    → serve D rs (begun pool) ≡ Some l → take_page D r l ≡ Some t
    → serve D (rs ++ r ∷ []) (begun pool) ≡ Some (give_page r t)

-- Before each entry there is room, or a link page can be taken: the load has this many segments, and first pages.
abbrev pub RoomIsThere : Type 0
RoomIsThere =
    (pool all : List ℕ) (segments : ℕ) (d : Draft) →
    UnderWay pool all (length all + link_pages_for (segments + length all) + length d.first) d
    → IsSteady d → length d.entries < segments + length all
    → (e : Draft) × Room d e
    × UnderWay pool all (length all + link_pages_for (segments + length all) + length d.first) e
    × HasRoom e × (e.entries ≡ d.entries) × (e.first ≡ d.first)

-- With room, each wanted page that is not loaded can be.
abbrev pub PageIsThere : Type 0
PageIsThere =
    (pool all : List ℕ) (need p : ℕ) (e : Draft) → UnderWay pool all need e → HasRoom e → Has p all
    → count p (pages_of e.entries) ≡ 0 → length e.loading.spare + length all ≤ need
    → (t : ℕ × Loading) × CanTake e (Some p) t × UnderWay pool all need (with_move e p t)

-- With room, a segment's start keeps the draft under way.
abbrev pub StartIsThere : Type 0
StartIsThere =
    (pool all : List ℕ) (need p : ℕ) (e : Draft) → UnderWay pool all need e → HasRoom e
    → UnderWay pool all need (with_start e p)

-- When all wanted pages are loaded, exactly the need is drawn and none is filed.
abbrev pub AllDrawn : Type 0
AllDrawn =
    (pool all : List ℕ) (need : ℕ) (d : Draft) → UnderWay pool all need d
    → ((p : ℕ) → d.wanted p ≡ true → Has p (pages_of d.entries))
    → length d.loading.spare + length d.loading.pairs ≡ need
    → (d.loading.filed ≡ []) × (d.loading.left ≡ drop need pool)

-- A list that is begun is under way, and the pages before the link pages can be taken.
abbrev pub OpensUnderWay : Type 0
OpensUnderWay =
    ((M : Mem) (D : ℕ → Bool) (W : Wants) (need : ℕ) (pool all : List ℕ)
    → ((x : ℕ) → count x pool ≤ 1) → ((p : ℕ) → D p ≡ true → Has p all) → need ≤ length pool
    → UnderWay pool all need (initial M D W need pool) × IsSteady (initial M D W need pool))
    × ((pool all : List ℕ) (need : ℕ) (d : Draft) → UnderWay pool all need d → d.links ≡ []
    → length d.loading.spare + 1 + length all ≤ need
    → (t : ℕ × Loading) × CanTake d None t × UnderWay pool all need (with_first d t))

-- The pages taken first, the control page, the swap page and the first link page, are the first usable pages of the pool
-- that are no destinations. D tells the destinations.
abbrev pub FirstPages : Type 0
FirstPages =
    (D : ℕ → Bool) (wish : Wish) (e : Entry) (es : List Entry) (pool : List ℕ) (l : Loading)
    → loading_after D wish (e ∷ es) pool ≡ Some l
    → take (first_count wish + 1) l.spare
    ≡ take (first_count wish + 1) (filter (λ p. not (D p)) pool)
