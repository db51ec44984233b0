-- The hole of a search as a value, so that a plan can go on with it. It is the hole of hole_search, the least or the
-- greatest address that fits (IsHole): the law places_are_holes says so of every rule (this project's own).
-- No clause of `kexec` reaches what stands here: it serves laws, and contracts inside the crates.
use Rattle.std.specs.Prelude.{ℕ, Bool, Option}
use Rattle.hole_search.specs.inner.Holes.{IsHole}
use Rattle.kexec_plan.specs.declared.places.PlaceRule.{PlaceRule}
use Rattle.kexec_plan.specs.Parts.{part_size}

-- what is found is the hole of this rule
abbrev pub IsHoleBy : (ℕ → Bool) → (ℕ → Bool) → PlaceRule → Option ℕ → Type 0
IsHoleBy ram taken r found =
    IsHole r.end ram taken
    (record { size = part_size r.length; align = r.align; min = r.min; max = r.most }) found
