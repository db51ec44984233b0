-- The first page that stands twice (this project's own).
-- No clause of `kexec` reaches what stands here: it serves laws, and contracts inside the crates.
use Rattle.std.specs.Prelude.{◌≡◌, ℕ, ◌≤◌, List, Some, take}
use Rattle.std.specs.List.{slice_get}
use Rattle.kx_pages.specs.Lists.{Distinct, count}

-- x stands in the list at a place before which it stands too, and before which no number stands twice
pub record IsFirstRepeat (xs : List ℕ) (x : ℕ) : Type 0 where
  pub place : ℕ
  pub here : slice_get xs place ≡ Some x
  pub earlier : 1 ≤ count x (take place xs)
  pub once : Distinct (take place xs)
