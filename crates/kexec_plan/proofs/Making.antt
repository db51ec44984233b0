-- A part that has its place can be made, and what is told of it keeps to its limits.
use Rattle.std.proofs.Common.{◌≡◌, ℕ, Bool, ◌+◌, ◌-◌, ◌^◌, ◌<◌, ◌≤◌, length, Result, Ok, sym, subst, arith}
use Rattle.kx_pages.proofs.Lists.{Each-append}
use Rattle.plan_faults.specs.declared.fault.PlanFault.{PlanFault}
use Rattle.kexec_plan.specs.declared.places.Site.{Site}
use Rattle.kexec_plan.specs.Parts.{part_size}
use Rattle.kexec_plan.specs.Places.{place, taking}
use Rattle.kexec_plan.specs.inner.Places.{IsPlacedBy}
use Rattle.kexec_plan.specs.Laying.{Laid, PlanPart, Image, Initrd, Headers, Parameters, Module, Information, rule_of, tell, bytes_of, push, place_part}
use Rattle.kexec_plan.specs.inner.Laying.{CanMake, IsPart, EndsLow, EndLow}
use Rattle.kexec_plan.proofs.Parameters.{parameters_low}
use Rattle.kexec_plan.proofs.Reach.{in_reach}

-- what is laid, with these pages taken
abbrev pub with_taken : Laid → (ℕ → Bool) → Laid
with_taken l taken = record l { taken = taken }

part_can_be_made : (p : PlanPart) (s : Site) (l : Laid) (taken : ℕ → Bool) → IsPart p → EndLow l.slots → IsPlacedBy (rule_of p l) s → CanMake p s (tell p s (with_taken l taken))
part_can_be_made (Image rule bytes) s l taken part low placed = tt
part_can_be_made (Initrd rule bytes) s l taken part low placed = tt
part_can_be_made (Headers rule map notes) s l taken part low placed = tt
part_can_be_made (Parameters k rows) s l taken part low placed = (part, parameters_low k rows l.command s placed)
part_can_be_made (Module m) s l taken part low placed = tt
part_can_be_made (Information rows) s l taken part low placed = in_reach rows l.command l.slots s low placed

pub can_make : (p : PlanPart) (s : Site) (l told : Laid) (taken : ℕ → Bool) → IsPart p → EndLow l.slots → IsPlacedBy (rule_of p l) s → told ≡ tell p s (with_taken l taken) → CanMake p s told
can_make p s l told taken part low placed e = subst (CanMake p s) (sym e) (part_can_be_made p s l taken part low placed)

-- a part whose pages end so low has bytes that end below 4 GiB
below : (n size at : ℕ) → size ≡ part_size n → at + size ≤ 2 ^ 32 - 4097 + 1 → at + n < 2 ^ 32
below n size at e h = omega (arith, e, h)

stays : (p : PlanPart) (s : Site) (l : Laid) (taken : ℕ → Bool) → IsPlacedBy (rule_of p l) s → EndLow l.slots → EndLow (tell p s (with_taken l taken)).slots
stays (Image rule bytes) s l taken placed low = low
stays (Initrd rule bytes) s l taken placed low = low
stays (Headers rule map notes) s l taken placed low = low
stays (Parameters k rows) s l taken placed low = low
stays (Module m) s l taken placed low =
    Each-append EndsLow l.slots _ low (record { low = below (length m.bytes) s.size s.at placed.size placed.within }, tt)
stays (Information rows) s l taken placed low = low

pub told_low : (p : PlanPart) (s : Site) (l told : Laid) (taken : ℕ → Bool) → IsPlacedBy (rule_of p l) s → EndLow l.slots → told ≡ tell p s (with_taken l taken) → EndLow told.slots
told_low p s l told taken placed low e = subst (λ (t : Laid). EndLow t.slots) (sym e) (stays p s l taken placed low)

abbrev pub laid_as : Laid → Result Laid PlanFault
laid_as l = Ok l

-- one part more is laid so
pub part_is : (ram : ℕ → Bool) (l told more : Laid) (p : PlanPart) (s : Site) → place ram l.taken (rule_of p l) ≡ Ok s → told ≡ tell p s (with_taken l (taking l.taken s)) → laid_as (push told s (bytes_of p s told)) ≡ laid_as more → place_part ram l p ≡ laid_as more
unfolding place_part
part_is ram l told more p s h e k = rw h (rw e at k)
