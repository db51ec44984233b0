-- What the writer's calls begin with, and what they leave (this project's own).
use Rattle.std.specs.Prelude.{◌≡◌, ℕ, ◌++◌, take, drop}
use Rattle.page_pool.specs.Pages.{Pages, left_among, left_of, usable_of}

-- Pool q is pool p after the first n of its usable pages were drawn: they are gone from the pages left, and the others
-- stay in their order, also those that are not usable.
pub record HasDrawn (n : ℕ) (p q : Pages) : Type 0 where
  pub drawn : q.drawn ≡ p.drawn ++ take n (usable_of p)
  pub usable : usable_of q ≡ drop n (usable_of p)
  pub left : left_of q ≡ left_among (left_of p) (take n (usable_of p))
  pub made : q.made ≡ p.made
  pub limit : q.limit ≡ p.limit
