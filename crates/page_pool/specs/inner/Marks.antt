-- The table of marks (this project's own).
-- No clause of `kexec` reaches what stands here: it serves laws, and contracts inside the crates.
use Rattle.std.specs.Prelude.{◌≡◌, ℕ, ◌≤◌, List, Bool, true, false, IsSome, length, take, nat_eq, unwrap_or, Some, None, if◌then◌else◌}
use Rattle.std.specs.List.{list_any, AllByRecursion}
use Rattle.std.specs.Ordering.{nat_cmp}
use Rattle.std.specs.FinMap as finite
use Rattle.std.specs.BTreeMap as tree
use Rattle.kx_pages.specs.Lists.{Distinct, count}
use Rattle.kx_pages.specs.inner.Numbers.{IsPage}
use Rattle.page_pool.specs.Pages.{pool_page_limit}
use Rattle.page_pool.specs.inner.Queue.{IsQueue, pages_at}

abbrev pub marks_of : tree.BTreeMap ℕ Bool → finite.FinMap nat_cmp Bool
marks_of m = finite.from_entries m.entries

-- each of these pages has a mark
pub record HaveMarks (xs : List ℕ) (m : tree.BTreeMap ℕ Bool) : Type 0 where
  pub each : (x : ℕ) → 1 ≤ count x xs → IsSome (tree.get nat_cmp m x)

-- each page that is marked as filed is one of these
pub record FiledAreAmong (xs : List ℕ) (m : tree.BTreeMap ℕ Bool) : Type 0 where
  pub each : (x : ℕ) → unwrap_or (finite.get (marks_of m) x) false ≡ true → 1 ≤ count x xs

-- what each pool is: its pages, the queue of those drawn and those to draw, and its marks
pub record IsPool (xs queue : List ℕ) (flags : List Bool) (next stop limit : ℕ)
    (m : tree.BTreeMap ℕ Bool) : Type 0 where
  pub once : Distinct xs
  pub low : AllByRecursion IsPage xs
  pub few : length xs ≤ pool_page_limit
  pub queued : IsQueue xs queue flags next stop limit xs
  pub have : HaveMarks xs m
  pub filed : FiledAreAmong (pages_at xs (take next queue)) m

-- a table of these pages, none of them filed
pub record AreMarks (xs : List ℕ) (m : tree.BTreeMap ℕ Bool) : Type 0 where
  pub each : (q : ℕ) → tree.get nat_cmp m q ≡ (if list_any (nat_eq q) xs then Some false else None)
  pub once : Distinct xs
  pub low : AllByRecursion IsPage xs
