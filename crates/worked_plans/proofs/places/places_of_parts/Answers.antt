-- The places of the holes.
use Rattle.std.proofs.Common.{◌≡◌, ℕ, ◌+◌, ◌/◌, true, false, Some, None, Ok, refl, ap, arith}
use Rattle.hole_search.specs.declared.search.End.TheVariants.{Greatest}
use Rattle.hole_search.specs.inner.Holes.{Fits}
use Rattle.kexec_plan.proofs.Holes.{hole_is}
use Rattle.kexec_plan.specs.Holes.{hole}
use Rattle.kexec_plan.specs.Parts.{part_size}
use Rattle.kexec_plan.specs.Places.{place, place_some}
use Rattle.kexec_plan.specs.Table.{highest}
use Rattle.plan_faults.specs.declared.fault.Part.{Part}
use Rattle.kx_laws.specs.Results.{◌>>=◌}
use Rattle.std.proofs.lemmas.Bool.Decides.{nat_tests}
use Rattle.worked_plans.proofs.Placing.{AreBlocked, AreFree, free_is, highest_at, not_placed, placed}
use Rattle.worked_plans.specs.Machines.{page_four, two_to_six}
use Rattle.plan_faults.specs.declared.fault.Part.TheVariants as parts
use Rattle.worked_plans.proofs.places.places_of_parts.Goals as goal

-- pages 5 and 6 are free, pages 2 and 3 are, and none from page 7 on
five_and_six : AreFree two_to_six page_four 5 2
five_and_six q from to = (grind (arith, nat_tests), grind (arith, nat_tests))

two_and_three : AreFree two_to_six page_four 2 2
two_and_three q from to = (grind (arith, nat_tests), grind (arith, nat_tests))

none_behind : (most : ℕ) → AreBlocked two_to_six page_four 7 most
none_behind most q from to = grind (arith, nat_tests)

high : (part : Part) → hole two_to_six page_four (highest part 0x1001 0xffff) ≡ Some 0x5000
high part = highest_at two_to_six page_four part 0x1001 0xffff 5 2 refl (omega arith) five_and_six (omega arith) (none_behind 0xffff)

-- of three pages one is not free
no_three : (part : Part) (x : ℕ) → Fits two_to_six page_four (record { size = part_size 0x2001; align = 4096; min = 0; max = 0xffff }) x → ⊥
no_three part x h =
    let a = h.aligned in
    let f = free_is two_to_six page_four (x / 4096) (h.in_ram (x / 4096) (omega arith) (omega arith)) (h.not_taken (x / 4096) (omega arith) (omega arith)) in
    let m = free_is two_to_six page_four (x / 4096 + 1) (h.in_ram (x / 4096 + 1) (omega arith) (omega arith)) (h.not_taken (x / 4096 + 1) (omega arith) (omega arith)) in
    let l = free_is two_to_six page_four (x / 4096 + 2) (h.in_ram (x / 4096 + 2) (omega arith) (omega (arith, a))) (h.not_taken (x / 4096 + 2) (omega arith) (omega (arith, a))) in
    grind (arith, nat_tests)

none : (part : Part) → hole two_to_six page_four (highest part 0x2001 0xffff) ≡ None
none part = hole_is two_to_six page_four (highest part 0x2001 0xffff) None (no_three part)

pub returns-clause-at : goal.returns-clause-at
returns-clause-at c = refl

pub returns-clause-nowhere : goal.returns-clause-nowhere
returns-clause-nowhere c = refl

pub returns-clause-high : goal.returns-clause-high
returns-clause-high c = placed two_to_six page_four parts.Initrd 0x1001 Greatest 4096 0 0xffff 0x5000 refl (high parts.Initrd)

pub returns-clause-none : goal.returns-clause-none
returns-clause-none c = not_placed two_to_six page_four parts.Module 0x2001 Greatest 4096 0 0xffff refl (none parts.Module)

pub returns-clause-too_large : goal.returns-clause-too_large
unfolding place
returns-clause-too_large c = refl

pub returns-clause-largest : goal.returns-clause-largest
returns-clause-largest c = placed (λ q. true) (λ q. false) parts.Purgatory 0x3fff_ffff_f000 Greatest 4096 0 0x3fff_ffff_ffff 4096 refl (highest_at (λ q. true) (λ q. false) parts.Purgatory 0x3fff_ffff_f000 0x3fff_ffff_ffff 1 0x3_ffff_ffff refl (omega arith) (λ q from to. (refl, refl)) (omega arith) (λ q from to. absurd (omega (arith, from, to))))

pub returns-clause-left_out : goal.returns-clause-left_out
unfolding place_some
returns-clause-left_out c = refl

pub returns-clause-some : goal.returns-clause-some
unfolding place_some
returns-clause-some c = ap (λ r. r >>= λ s. Ok (Some s)) (placed two_to_six page_four parts.Purgatory 0x1001 Greatest 4096 0 0xffff 0x5000 refl (high parts.Purgatory))

pub returns-clause-some_without_a_place : goal.returns-clause-some_without_a_place
unfolding place_some
returns-clause-some_without_a_place c = ap (λ r. r >>= λ s. Ok (Some s)) (not_placed two_to_six page_four parts.Purgatory 0x2001 Greatest 4096 0 0xffff refl (none parts.Purgatory))
