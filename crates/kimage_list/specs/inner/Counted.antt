-- How the pages of a load are counted (this project's own).
-- No clause of `kexec` reaches what stands here: it serves laws, and contracts inside the crates.
use Rattle.std.specs.Prelude.{◌≡◌, ℕ, ◌+◌, ◌≤◌, ◌*◌, List, ◌++◌, length, take, true, false, Some, None}
use Rattle.std.specs.List.{AllByRecursion}
use Rattle.kx_pages.specs.Lists.{Has, count, destinations}
use Rattle.kx_pages.specs.Needs.{link_page_entries}
use Rattle.kimage_list.specs.Load.{Request}
use Rattle.kimage_list.specs.inner.Load.{pages_of}
use Rattle.kimage_list.specs.inner.Drafts.{amount, IsHome, Draft}

-- of a draft from this pool, where all lists the wanted pages
pub record Counts (pool all : List ℕ) (d : Draft) : Type 0 where
  pub once : (x : ℕ) → count x pool ≤ 1
  pub conserved : (x : ℕ) → amount x d.loading ≡ count x pool
  pub homes : AllByRecursion (IsHome d.wanted) d.loading.pairs
  pub order : destinations d.loading.pairs ≡ pages_of d.entries
  pub files : AllByRecursion (λ p. (d.wanted p ≡ true) × (Has p (destinations d.loading.pairs) → ⊥))
      d.loading.filed
  pub sizes : length d.loading.left + length d.loading.filed + length d.loading.spare
      + length d.loading.pairs ≡ length pool
  pub front : List ℕ
  pub ends : pool ≡ front ++ d.loading.left
  pub free : AllByRecursion (λ p. d.wanted p ≡ false) d.loading.spare
  pub wanted : (p : ℕ) → d.wanted p ≡ true → Has p all
  pub inside : AllByRecursion (λ p. Has p all) (pages_of d.entries)
  pub spent : (x : ℕ) → count x (pages_of d.entries) ≤ 1

-- a request that the count allows: n are the requests for no destination so far
abbrev pub Allowed : Request → List ℕ → List ℕ → ℕ → ℕ → Type 0
Allowed None all spent n need = n + 1 + length all ≤ need
Allowed (Some p) all spent n need = (Has p all) × (count p spent ≡ 0) × (n + length all ≤ need)

-- a draft under way: its pages are counted, and the load may draw the first `need` pages of the pool
pub record UnderWay (pool all : List ℕ) (need : ℕ) (d : Draft) : Type 0 where
  pub counts : Counts pool all d
  pub enough : need ≤ length pool
  pub room : d.room ≡ take need pool
  pub spare : d.loading.spare ≡ d.first ++ d.links
  pub within : length d.entries ≤ link_page_entries * length d.links
