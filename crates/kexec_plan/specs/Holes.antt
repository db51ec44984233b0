-- The hole of a search as a value, so that a plan can go on with it. It is the hole of hole_search, the least or the
-- greatest address that fits (IsHole): the law places_are_holes says so of every rule (this project's own).
use Rattle.std.specs.Prelude.{ℕ, zero, suc, ◌+◌, ◌-◌, ◌/◌, ◌%◌, ◌==◌, ◌&&◌, not, Bool, nat_le, if◌then◌else◌, Option, Some, None}
use Rattle.std.specs.List.{list_all, range_with_len}
use Rattle.hole_search.specs.declared.search.End.{End}
use Rattle.hole_search.specs.declared.search.End.TheVariants.{Least, Greatest}
use Rattle.kexec_plan.specs.declared.places.PlaceRule.{PlaceRule}
use Rattle.kexec_plan.specs.Parts.{part_size}

-- page q is RAM that is not taken
abbrev pub is_free : (ℕ → Bool) → (ℕ → Bool) → ℕ → Bool
is_free ram taken q = ram q && not (taken q)

-- each page from address a to a + size - 1 is free
abbrev pub are_free : (ℕ → Bool) → (ℕ → Bool) → ℕ → ℕ → Bool
are_free ram taken a size =
    list_all (is_free ram taken) (range_with_len (a / 4096) ((a + size - 1) / 4096 + 1 - a / 4096))

-- a part fits at address a by its rule
unfoldable pub fits : (ℕ → Bool) → (ℕ → Bool) → PlaceRule → ℕ → Bool
fits ram taken r a =
    (a % r.align == 0)
    && (nat_le r.min a
    && (nat_le (a + part_size r.length - 1) r.most
    && are_free ram taken a (part_size r.length)))

-- the greatest number below n that passes
unfoldable pub greatest : (ℕ → Bool) → ℕ → Option ℕ
greatest f zero = None
greatest f (suc n) = if f n then Some n else greatest f n

-- the least of the n numbers from p on that passes
unfoldable pub least : (ℕ → Bool) → ℕ → ℕ → Option ℕ
least f p zero = None
least f p (suc n) = if f p then Some p else least f (suc p) n

-- the least or the greatest address that fits: all of them are at most the greatest address of the last byte
abbrev pub hole_from : End → (ℕ → Bool) → ℕ → Option ℕ
hole_from Least f n = least f 0 n
hole_from Greatest f n = greatest f n

unfoldable pub hole : (ℕ → Bool) → (ℕ → Bool) → PlaceRule → Option ℕ
hole ram taken r = hole_from r.end (fits ram taken r) (r.most + 1)
