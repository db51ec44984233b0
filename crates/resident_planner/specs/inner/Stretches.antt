-- Stretches of steps from page to page, as the planner keeps them (this project's own). D lists the
-- wanted pages in rising order; a page is told by its place there.
-- No clause of `kexec` reaches what stands here: it serves laws, and contracts inside the crates.
use Rattle.std.specs.Prelude.{◌≡◌, ℕ, zero, suc, ◌^◌, ◌<◌, ◌≤◌, List, [], ◌∷◌, length, min, get_or, Option, Some, None, false, IfSome}
use Rattle.kx_pages.specs.Lists.{has}
use Rattle.resident_planner.specs.declared.stretch.Stretch.{Stretch}
use Rattle.resident_planner.specs.Cycles.{trail}

-- page p stands at this place, or at none
abbrev pub PlaceIn : List ℕ → ℕ → Option ℕ → Type 0
PlaceIn D p None = has p D ≡ false
PlaceIn D p (Some i) = (i < length D) × (get_or D i 0 ≡ p)

-- the page at this place is this one, if there is one
abbrev pub LeadsTo : List ℕ → Option ℕ → Option ℕ → Type 0
LeadsTo D None o = o ≡ None
LeadsTo D (Some i) o = (i < length D) × (o ≡ Some (get_or D i 0))

-- each page's step leads where s says
pub record AreSteps (D : List ℕ) (s : ℕ → Option ℕ) (steps : List (Option ℕ)) : Type 0 where
  pub size : length steps ≡ length D
  pub each : (i : ℕ) → i < length D → LeadsTo D (get_or steps i None) (s (get_or D i 0))

abbrev pub after_on : Option ℕ → (ℕ → Option ℕ) → Option ℕ
after_on None on = None
after_on (Some q) on = on q

-- where n steps of s lead from page p
abbrev pub after : (ℕ → Option ℕ) → ℕ → ℕ → Option ℕ
after s zero p = Some p
after s (suc n) p = after_on (s p) (after s n)

-- the lowest of these pages, or 2^34 where there is none
abbrev pub lowest : List ℕ → ℕ
lowest [] = 2 ^ 34
lowest (x ∷ xs) = min x (lowest xs)

-- this is the stretch of n steps from page p on
pub record IsStretch (D : List ℕ) (s : ℕ → Option ℕ) (n p : ℕ) (x : Stretch) : Type 0 where
  pub end : LeadsTo D x.end (after s n p)
  pub lowest_page : x.lowest ≡ lowest (trail s n p)
  pub count : x.steps ≡ length (trail s n p)

-- and these are those of all pages
pub record AreStretches (D : List ℕ) (s : ℕ → Option ℕ) (n : ℕ) (xs : List Stretch) : Type 0 where
  pub size : length xs ≡ length D
  pub each : (i : ℕ) (d : Stretch) → i < length D → IsStretch D s n (get_or D i 0) (get_or xs i d)

-- a stretch that ends at one of n places, after steps that can be counted
pub record Inside (n : ℕ) (x : Stretch) : Type 0 where
  pub place : IfSome x.end (λ i. i < n)
  pub few : x.steps ≤ 2 ^ 32
