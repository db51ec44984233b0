-- The places that fit, and that none is lower or higher.
use Rattle.std.proofs.Common.{◌≡◌, ℕ, ◌+◌, ◌/◌, ◌≤◌, Some, None, refl, arith}
use Rattle.hole_search.specs.declared.search.End.TheVariants.{Least}
use Rattle.hole_search.specs.inner.Holes.{Fits}
use Rattle.kexec_plan.proofs.Holes.{hole_is}
use Rattle.kexec_plan.specs.Holes.{hole}
use Rattle.kexec_plan.specs.Parts.{part_size}
use Rattle.kexec_plan.specs.Table.{highest}
use Rattle.plan_faults.specs.declared.fault.Part.{Part}
use Rattle.std.proofs.lemmas.Bool.Decides.{nat_tests}
use Rattle.worked_plans.proofs.Placing.{AreBlocked, AreFree, free_is, highest_at, lowest_at}
use Rattle.worked_plans.specs.Machines.{page_four, two_to_six}
use Rattle.plan_faults.specs.declared.fault.Part.TheVariants as parts
use Rattle.worked_plans.proofs.places.holes_of_parts.Goals as goal

-- pages 5 and 6 are free, pages 2 and 3 are, and none from page 7 on
five_and_six : AreFree two_to_six page_four 5 2
five_and_six q from to = (grind (arith, nat_tests), grind (arith, nat_tests))

two_and_three : AreFree two_to_six page_four 2 2
two_and_three q from to = (grind (arith, nat_tests), grind (arith, nat_tests))

none_behind : (most : ℕ) → AreBlocked two_to_six page_four 7 most
none_behind most q from to = grind (arith, nat_tests)

high : (part : Part) → hole two_to_six page_four (highest part 0x1001 0xffff) ≡ Some 0x5000
high part = highest_at two_to_six page_four part 0x1001 0xffff 5 2 refl (omega arith) five_and_six (omega arith) (none_behind 0xffff)

-- of three pages one is not free
no_three : (part : Part) (x : ℕ) → Fits two_to_six page_four (record { size = part_size 0x2001; align = 4096; min = 0; max = 0xffff }) x → ⊥
no_three part x h =
    let a = h.aligned in
    let f = free_is two_to_six page_four (x / 4096) (h.in_ram (x / 4096) (omega arith) (omega arith)) (h.not_taken (x / 4096) (omega arith) (omega arith)) in
    let m = free_is two_to_six page_four (x / 4096 + 1) (h.in_ram (x / 4096 + 1) (omega arith) (omega arith)) (h.not_taken (x / 4096 + 1) (omega arith) (omega arith)) in
    let l = free_is two_to_six page_four (x / 4096 + 2) (h.in_ram (x / 4096 + 2) (omega arith) (omega (arith, a))) (h.not_taken (x / 4096 + 2) (omega arith) (omega (arith, a))) in
    grind (arith, nat_tests)

none : (part : Part) → hole two_to_six page_four (highest part 0x2001 0xffff) ≡ None
none part = hole_is two_to_six page_four (highest part 0x2001 0xffff) None (no_three part)

-- two pages below 0x6fff lie at 0x2000 at most
bounded : (x : ℕ) → Fits two_to_six page_four (record { size = part_size 0x1001; align = 4096; min = 0; max = 0x6ffe }) x → x ≤ 0x2000
bounded x h =
    let a = h.aligned in
    let b = h.below in
    let f = free_is two_to_six page_four (x / 4096) (h.in_ram (x / 4096) (omega arith) (omega arith)) (h.not_taken (x / 4096) (omega arith) (omega arith)) in
    let l = free_is two_to_six page_four (x / 4096 + 1) (h.in_ram (x / 4096 + 1) (omega arith) (omega (arith, a))) (h.not_taken (x / 4096 + 1) (omega arith) (omega (arith, a))) in
    grind (arith, nat_tests)

pub returns-clause-low : goal.returns-clause-low
returns-clause-low c = lowest_at two_to_six page_four parts.Kernel 0x1001 0x1000 0 0xffff 2 2 refl (omega arith) refl (omega arith) two_and_three (omega arith) (λ x a m l first last. grind (arith, nat_tests))

pub returns-clause-high : goal.returns-clause-high
returns-clause-high c = high parts.Initrd

pub returns-clause-under_the_bound : goal.returns-clause-under_the_bound
returns-clause-under_the_bound c = hole_is two_to_six page_four (highest parts.Initrd 0x1001 0x6ffe) (Some 0x2000) (record { aligned = refl; above = omega arith; below = omega arith; in_ram = λ q from to. (two_and_three q from (omega (arith, to))).0; not_taken = λ q from to. (two_and_three q from (omega (arith, to))).1 }, bounded)

pub returns-clause-behind_a_short_hole : goal.returns-clause-behind_a_short_hole
returns-clause-behind_a_short_hole c = lowest_at two_to_six page_four parts.Kernel 0x1001 0x1000 0x2001 0xffff 5 2 refl (omega arith) refl (omega arith) five_and_six (omega arith) (λ x a m l first last. grind (arith, nat_tests))

pub returns-clause-unaligned_page : goal.returns-clause-unaligned_page
returns-clause-unaligned_page c = hole_is two_to_six page_four (record { part = parts.Kernel; length = 1; end = Least; align = 0x800; min = 0x2001; most = 0xffff }) (Some 0x2800) (record { aligned = refl; above = omega arith; below = omega arith; in_ram = λ q from to. (two_and_three q (omega (arith, from)) (omega (arith, to))).0; not_taken = λ q from to. (two_and_three q (omega (arith, from)) (omega (arith, to))).1 }, λ x h. let a = h.aligned in let b = h.above in omega (arith, a, b))

pub returns-clause-none : goal.returns-clause-none
returns-clause-none c = none parts.Initrd
