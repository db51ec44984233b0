-- The queue of a pool (this project's own).
-- No clause of `kexec` reaches what stands here: it serves laws, and contracts inside the crates.
use Rattle.std.specs.Prelude.{◌≡◌, ℕ, ◌<◌, ◌≤◌, ◌++◌, ◌&&◌, Bool, not, false, List, length, take, map, get_or}
use Rattle.std.specs.List.{AllByRecursion}
use Rattle.kx_pages.specs.Lists.{Distinct, has}
use Rattle.page_pool.specs.Pages.{is_usable, usable_among}

-- the pages at these places
unfoldable pub pages_at : (pages places : List ℕ) → List ℕ
pages_at pages places = map (λ i. get_or pages i 0) places

-- page q is left, and usable
abbrev pub is_waiting : (limit : ℕ) (drawn : Bool) (q : ℕ) → Bool
is_waiting limit drawn q = not drawn && is_usable limit q

-- Up to `next` the queue has the places of the drawn pages, and from there up to `stop` those of the usable pages left
-- among the pages seen. The flags tell by place which pages are drawn.
pub record IsQueue (pages queue : List ℕ) (flags : List Bool) (next stop limit : ℕ)
    (seen : List ℕ) : Type 0 where
  pub room : length queue ≡ length pages
  pub flagged : length flags ≡ length pages
  pub order : next ≤ stop
  pub within : stop ≤ length pages
  pub places : AllByRecursion (λ i. i < length pages) (take stop queue)
  pub once : Distinct (pages_at pages (take next queue))
  pub drawn : (i : ℕ) → i < length pages
      → get_or flags i false ≡ has (get_or pages i 0) (pages_at pages (take next queue))
  pub usable : pages_at pages (take stop queue)
      ≡ pages_at pages (take next queue)
      ++ usable_among limit seen (pages_at pages (take next queue))
