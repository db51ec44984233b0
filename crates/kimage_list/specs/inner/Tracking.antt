-- Where a pool and a table stand while a list is written (this project's own).
-- No clause of `kexec` reaches what stands here: it serves laws, and contracts inside the crates.
use Rattle.std.specs.Prelude.{◌≡◌, ℕ, ◌+◌, ◌≤◌, List, Bool, true, false, Option, Some, None, is_some}
use Rattle.page_pool.specs.Pages.{Pages, is_filed, usable_of}
use Rattle.kx_pages.specs.Lists.{has, count}
use Rattle.kimage_list.specs.declared.table.PageSource.{PageSource}
use Rattle.kimage_list.specs.declared.taking.MovedPage.{MovedPage}
use Rattle.kimage_list.specs.declared.taking.TakenPage.{TakenPage}
use Rattle.kimage_list.specs.declared.taking.Fate.{Fate}
use Rattle.kimage_list.specs.declared.taking.Fate.TheVariants as fate
use Rattle.kimage_list.specs.Load.{Loading, source_of, at_home}
use Rattle.kimage_list.specs.inner.Tables.{Slots, slot, source_in, place_in}

-- pool and table are those of a loading
pub record Tracks (D : ℕ → Bool) (l : Loading) (pool : Pages) (table : Slots) : Type 0 where
  pub left : usable_of pool ≡ l.left
  pub filed : (p : ℕ) → is_filed pool p ≡ has p l.filed
  pub wanted : (p : ℕ) → D p ≡ is_some (slot table p)
  pub loaded : (p : ℕ) → source_in (slot table p) ≡ source_of p l.pairs
  pub once : (p : ℕ) → count p l.left + count p l.filed ≤ 1

-- the pair that was exchanged on the way from pairs to pairs', which freed page s
abbrev pub Exchanged : Option MovedPage → List (ℕ × ℕ) → List (ℕ × ℕ) → ℕ → Slots → Type 0
Exchanged None pairs pairs' s table = pairs' ≡ pairs
Exchanged (Some m) pairs pairs' s table =
    (source_of m.page pairs ≡ Some s) × (pairs' ≡ at_home m.page pairs)
    × (place_in (slot table m.page) ≡ Some m.place)

-- x is the page that taking gave, and t tells it with the loading after it
pub record Took (D : ℕ → Bool) (l : Loading) (t : ℕ × Loading) (x : TakenPage) (pool : Pages)
    (table table' : Slots) : Type 0 where
  pub page : x.page ≡ t.0
  pub tracks : Tracks D t.1 pool table'
  pub exchanged : Exchanged x.moved l.pairs t.1.pairs t.0 table
  pub places : (p : ℕ) → place_in (slot table' p) ≡ place_in (slot table p)

-- a call gave what taking gives
abbrev pub Gives : (ℕ → Bool) → Loading → Option (ℕ × Loading) → Option TakenPage → Pages → Slots
    → Slots → Type 0
Gives D l (Some t) (Some x) pool table table' = Took D l t x pool table table'
Gives D l None None pool table table' = Unit {0}
Gives D l None (Some x) pool table table' = ⊥
Gives D l (Some t) None pool table table' = ⊥

-- what becomes of a drawn page
abbrev pub fate_of : Bool → Option (Option PageSource) → Fate
fate_of true o = fate.Given
fate_of false None = fate.Given
fate_of false (Some None) = fate.Filed
fate_of false (Some (Some x)) = fate.Exchanged x
