-- Where the parts of a plan are placed (this project's own).
-- No clause of `kexec` reaches what stands here: it serves laws, and contracts inside the crates.
use Rattle.std.specs.Prelude.{◌≡◌, ◌+◌, ◌%◌, ◌^◌, ◌≤◌, Option, Some, None}
use Rattle.kexec_plan.specs.declared.places.Site.{Site}
use Rattle.kexec_plan.specs.declared.places.PlaceRule.{PlaceRule}
use Rattle.kexec_plan.specs.Parts.{part_size}

-- what is so of each place that is found by a rule
pub record IsPlacedBy (r : PlaceRule) (s : Site) : Type 0 where
  pub aligned : s.at % r.align ≡ 0
  pub within : s.at + s.size ≤ r.most + 1
  pub low : s.at + s.size ≤ 2 ^ 46
  pub size : s.size ≡ part_size r.length

abbrev pub IsPlacedIf : Option PlaceRule → Option Site → Type 0
IsPlacedIf (Some r) (Some s) = IsPlacedBy r s
IsPlacedIf (Some r) None = ⊥
IsPlacedIf None s = Unit {0}
