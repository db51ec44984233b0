-- Where the parts of a plan are placed (this project's own).
use Rattle.std.specs.Prelude.{ℕ, ◌+◌, ◌*◌, ◌/◌, ◌^◌, ◌||◌, Bool, ◌&&◌, max, min, nat_lt, nat_le, if◌then◌else◌, List, Option, Some, None, Result, Ok, Err}
use Rattle.std.specs.List.{list_any}
use Rattle.kx_laws.specs.Results.{◌>>=◌}
use Rattle.segments.specs.Values.{SegmentValue, stop}
use Rattle.kx_pages.specs.Spans.{Run, in_span}
use Rattle.plan_faults.specs.declared.fault.PlanFault.{PlanFault}
use Rattle.plan_faults.specs.declared.fault.PlanFault.TheVariants as faults
use Rattle.kexec_plan.specs.declared.places.Site.{Site}
use Rattle.kexec_plan.specs.declared.places.PlaceRule.{PlaceRule}
use Rattle.kexec_plan.specs.Parts.{part_size}
use Rattle.kexec_plan.specs.Holes.{hole}

-- the place at an address
abbrev pub site_at : PlaceRule → Option ℕ → Result Site PlanFault
site_at r None = Err (faults.NoHole r.part)
site_at r (Some a) = Ok (record { at = a; size = part_size r.length })

-- the place of a part by its rule, in RAM that is not taken
unfoldable pub place : (ℕ → Bool) → (ℕ → Bool) → PlaceRule → Result Site PlanFault
place ram taken r =
    if nat_le (2 ^ 46) (part_size r.length) then Err (faults.NoHole r.part)
    else site_at r (hole ram taken r)

-- the pages that a segment meets, below the limit, also where it does not begin at a page
abbrev pub is_met : ℕ → SegmentValue → Bool
is_met q s = nat_lt q (2 ^ 34) && nat_lt (max s.mem (4096 * q)) (min (stop s) (4096 * q + 4096))

-- what is taken by segments
unfoldable pub taken_by : List SegmentValue → ℕ → Bool
taken_by ss q = list_any (is_met q) ss

-- the pages of a place
abbrev pub pages_at : Site → Run
pages_at s = record { first = s.at / 4096; count = s.size / 4096 }

-- what is taken, and a place
unfoldable pub taking : (ℕ → Bool) → Site → ℕ → Bool
taking taken s q = taken q || in_span (pages_at s) q

-- the same for a part that may be left out
unfoldable pub place_some : (ℕ → Bool) → (ℕ → Bool) → Option PlaceRule
    → Result (Option Site) PlanFault
place_some ram taken None = Ok None
place_some ram taken (Some r) = do
  s ← place ram taken r
  Ok (Some s)
