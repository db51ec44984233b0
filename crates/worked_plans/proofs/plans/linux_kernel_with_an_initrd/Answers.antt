-- Each part has its place, and the segments pass their rules.
use Rattle.std.proofs.Common.{◌≡◌, [], ◌∷◌, true, false, Some, None, Ok, refl, ap, ◌∙◌, arith}
use Rattle.boot_params.specs.Params.{params, params_fault, params_length, params_text}
use Rattle.boot_params.specs.SetupData.{extension}
use Rattle.boot_params.specs.ZeroPage.{page_text, row_text}
use Rattle.bzimage.specs.Kernel.{header_fault, kernel_reading, read_header, tested_header}
use Rattle.bzimage.specs.Signature.{is_bzimage}
use Rattle.hole_search.specs.declared.search.End.TheVariants.{Greatest, Least}
use Rattle.kexec_plan.specs.Formats.{shown_format}
use Rattle.kexec_plan.specs.Ground.{Machine, ram}
use Rattle.kexec_plan.specs.Kernels.{linux_kernel, read_kernel}
use Rattle.kexec_plan.specs.Laying.{Image, Initrd, Laid, Parameters, PlanPart, place_parts}
use Rattle.kexec_plan.specs.Places.{place, taken_by, taking}
use Rattle.kexec_plan.specs.Plan.{begin, plan, plan_as}
use Rattle.kexec_plan.specs.Purgatory.{some_purgatory}
use Rattle.kexec_plan.specs.Rules.{first_refusal, test_segments, unless_refused}
use Rattle.kexec_plan.specs.Table.{highest, kernel_rule}
use Rattle.kx_fields.specs.Fields.{field, with_field, zeros}
use Rattle.kx_laws.specs.Results.{◌>>=◌}
use Rattle.segments.specs.Rules.{refusal, shape_refusal}
use Rattle.segments.specs.declared.fault.Kind.TheVariants.{Normal}
use Rattle.std.proofs.lemmas.Bool.Decides.{nat_tests}
use Rattle.std.specs.Int.RustNames.{count_ones}
use Rattle.std.specs.Prelude.{codes}
use Rattle.worked_plans.proofs.Machining.{machine_runs}
use Rattle.worked_plans.proofs.Placing.{AreBlocked, AreFree, highest_at, lowest_at, placed}
use Rattle.worked_plans.proofs.Planning.{ending, laid_with, parts_done, parts_on, plain_ending}
use Rattle.worked_plans.specs.LinuxKernels.{high_kernel, low_kernel}
use Rattle.worked_plans.specs.Machines.{machine, machine_rows}
use Rattle.plan_faults.specs.declared.fault.Part.TheVariants as parts
use Rattle.worked_plans.proofs.plans.linux_kernel_with_an_initrd.Goals as goal

-- ---- a kernel that may lie above 4 GiB
abbrev high0 : Laid
high0 = begin [] 0 (Some (codes "quiet"))

abbrev high_part0 : PlanPart
high_part0 = Image (kernel_rule high_kernel 1025) (0xeb ∷ [])

abbrev high1 : Laid
high1 = laid_with high0 high_part0 0x184000 0x3000

high_free0 : AreFree (ram (Machine machine)) high0.taken 0x184 3
unfolding ram taken_by taking
high_free0 q from to = (grind (arith, nat_tests), grind (arith, nat_tests))

high_place0 : place (ram (Machine machine)) high0.taken (record { part = parts.Kernel; length = 0x3000; end = Least; align = 0x4000; min = 0x18_2000; most = 0x3fff_ffff_ffff }) ≡ Ok (record { at = 0x184000; size = 0x3000 })
high_place0 = placed (ram (Machine machine)) high0.taken parts.Kernel 0x3000 Least 0x4000 0x18_2000 0x3fff_ffff_ffff 0x184000 refl (lowest_at (ram (Machine machine)) high0.taken parts.Kernel 0x3000 0x4000 0x18_2000 0x3fff_ffff_ffff 0x184 3 refl (omega arith) refl (omega arith) high_free0 (omega arith) (λ x a m l first last. omega (arith, a, m, l)))

abbrev high_part1 : PlanPart
high_part1 = Initrd (highest parts.Initrd 6 0x3fff_ffff_ffff) (codes "initrd")

abbrev high2 : Laid
high2 = laid_with high1 high_part1 0x1000ff000 0x1000

high_free1 : AreFree (ram (Machine machine)) high1.taken 0x1000ff 1
unfolding ram taken_by taking
high_free1 q from to = (grind (arith, nat_tests), grind (arith, nat_tests))

high_blocked1 : AreBlocked (ram (Machine machine)) high1.taken 0x100100 0x3fff_ffff_ffff
unfolding ram taken_by taking
high_blocked1 q from to = grind (arith, nat_tests)

high_place1 : place (ram (Machine machine)) high1.taken (record { part = parts.Initrd; length = 6; end = Greatest; align = 4096; min = 0; most = 0x3fff_ffff_ffff }) ≡ Ok (record { at = 0x1000ff000; size = 0x1000 })
high_place1 = placed (ram (Machine machine)) high1.taken parts.Initrd 6 Greatest 4096 0 0x3fff_ffff_ffff 0x1000ff000 refl (highest_at (ram (Machine machine)) high1.taken parts.Initrd 6 0x3fff_ffff_ffff 0x1000ff 1 refl (omega arith) high_free1 (omega arith) high_blocked1)

abbrev high_part2 : PlanPart
high_part2 = Parameters high_kernel machine_rows

abbrev high3 : Laid
high3 = laid_with high2 high_part2 0x1000fd000 0x2000

high_free2 : AreFree (ram (Machine machine)) high2.taken 0x1000fd 2
unfolding ram taken_by taking
high_free2 q from to = (grind (arith, nat_tests), grind (arith, nat_tests))

high_blocked2 : AreBlocked (ram (Machine machine)) high2.taken 0x1000ff 0x3fff_ffff_ffff
unfolding ram taken_by taking
high_blocked2 q from to = grind (arith, nat_tests)

high_place2 : place (ram (Machine machine)) high2.taken (record { part = parts.Parameters; length = 4102; end = Greatest; align = 4096; min = 0; most = 0x3fff_ffff_ffff }) ≡ Ok (record { at = 0x1000fd000; size = 0x2000 })
high_place2 = placed (ram (Machine machine)) high2.taken parts.Parameters 4102 Greatest 4096 0 0x3fff_ffff_ffff 0x1000fd000 refl (highest_at (ram (Machine machine)) high2.taken parts.Parameters 4102 0x3fff_ffff_ffff 0x1000fd 2 refl (omega arith) high_free2 (omega arith) high_blocked2)

high_laid : place_parts (ram (Machine machine)) high0 (high_part0 ∷ high_part1 ∷ high_part2 ∷ []) ≡ Ok high3
unfolding params_length
high_laid =
    parts_on (ram (Machine machine)) high0 high_part0 (high_part1 ∷ high_part2 ∷ []) 0x184000 0x3000 high_place0
    ∙ parts_on (ram (Machine machine)) high1 high_part1 (high_part2 ∷ []) 0x1000ff000 0x1000 high_place1
    ∙ parts_on (ram (Machine machine)) high2 high_part2 ([]) 0x1000fd000 0x2000 high_place2
    ∙ parts_done (ram (Machine machine)) high3

high_tested : test_segments (Machine machine) high3.list ≡ Ok high3.list
unfolding first_refusal test_segments refusal shape_refusal params params_fault params_text page_text row_text extension with_field zeros
high_tested = ap (λ rs. unless_refused high3.list (refusal rs Normal high3.list)) machine_runs

-- ---- one that may not
abbrev low0 : Laid
low0 = begin [] 0 (Some (codes "quiet"))

abbrev low_part0 : PlanPart
low_part0 = Image (kernel_rule low_kernel 1025) (0xeb ∷ [])

abbrev low1 : Laid
low1 = laid_with low0 low_part0 0x184000 0x3000

low_free0 : AreFree (ram (Machine machine)) low0.taken 0x184 3
unfolding ram taken_by taking
low_free0 q from to = (grind (arith, nat_tests), grind (arith, nat_tests))

low_place0 : place (ram (Machine machine)) low0.taken (record { part = parts.Kernel; length = 0x3000; end = Least; align = 0x4000; min = 0x18_2000; most = 0xffff_ffff }) ≡ Ok (record { at = 0x184000; size = 0x3000 })
low_place0 = placed (ram (Machine machine)) low0.taken parts.Kernel 0x3000 Least 0x4000 0x18_2000 0xffff_ffff 0x184000 refl (lowest_at (ram (Machine machine)) low0.taken parts.Kernel 0x3000 0x4000 0x18_2000 0xffff_ffff 0x184 3 refl (omega arith) refl (omega arith) low_free0 (omega arith) (λ x a m l first last. omega (arith, a, m, l)))

abbrev low_part1 : PlanPart
low_part1 = Initrd (highest parts.Initrd 6 0x6f_ffff) (codes "initrd")

abbrev low2 : Laid
low2 = laid_with low1 low_part1 0x6ff000 0x1000

low_free1 : AreFree (ram (Machine machine)) low1.taken 0x6ff 1
unfolding ram taken_by taking
low_free1 q from to = (grind (arith, nat_tests), grind (arith, nat_tests))

low_blocked1 : AreBlocked (ram (Machine machine)) low1.taken 0x700 0x6f_ffff
unfolding ram taken_by taking
low_blocked1 q from to = grind (arith, nat_tests)

low_place1 : place (ram (Machine machine)) low1.taken (record { part = parts.Initrd; length = 6; end = Greatest; align = 4096; min = 0; most = 0x6f_ffff }) ≡ Ok (record { at = 0x6ff000; size = 0x1000 })
low_place1 = placed (ram (Machine machine)) low1.taken parts.Initrd 6 Greatest 4096 0 0x6f_ffff 0x6ff000 refl (highest_at (ram (Machine machine)) low1.taken parts.Initrd 6 0x6f_ffff 0x6ff 1 refl (omega arith) low_free1 (omega arith) low_blocked1)

abbrev low_part2 : PlanPart
low_part2 = Parameters low_kernel machine_rows

abbrev low3 : Laid
low3 = laid_with low2 low_part2 0x7fe000 0x2000

low_free2 : AreFree (ram (Machine machine)) low2.taken 0x7fe 2
unfolding ram taken_by taking
low_free2 q from to = (grind (arith, nat_tests), grind (arith, nat_tests))

low_blocked2 : AreBlocked (ram (Machine machine)) low2.taken 0x800 0xffff_ffff
unfolding ram taken_by taking
low_blocked2 q from to = grind (arith, nat_tests)

low_place2 : place (ram (Machine machine)) low2.taken (record { part = parts.Parameters; length = 4102; end = Greatest; align = 4096; min = 0; most = 0xffff_ffff }) ≡ Ok (record { at = 0x7fe000; size = 0x2000 })
low_place2 = placed (ram (Machine machine)) low2.taken parts.Parameters 4102 Greatest 4096 0 0xffff_ffff 0x7fe000 refl (highest_at (ram (Machine machine)) low2.taken parts.Parameters 4102 0xffff_ffff 0x7fe 2 refl (omega arith) low_free2 (omega arith) low_blocked2)

low_laid : place_parts (ram (Machine machine)) low0 (low_part0 ∷ low_part1 ∷ low_part2 ∷ []) ≡ Ok low3
unfolding params_length
low_laid =
    parts_on (ram (Machine machine)) low0 low_part0 (low_part1 ∷ low_part2 ∷ []) 0x184000 0x3000 low_place0
    ∙ parts_on (ram (Machine machine)) low1 low_part1 (low_part2 ∷ []) 0x6ff000 0x1000 low_place1
    ∙ parts_on (ram (Machine machine)) low2 low_part2 ([]) 0x7fe000 0x2000 low_place2
    ∙ parts_done (ram (Machine machine)) low3

low_tested : test_segments (Machine machine) low3.list ≡ Ok low3.list
unfolding first_refusal test_segments refusal shape_refusal params params_fault params_text page_text row_text extension with_field zeros
low_tested = ap (λ rs. unless_refused low3.list (refusal rs Normal low3.list)) machine_runs

pub returns-clause-high : goal.returns-clause-high
unfolding plan plan_as read_kernel some_purgatory linux_kernel kernel_reading with_field zeros tested_header read_header header_fault is_bzimage field count_ones params params_fault shown_format
returns-clause-high c = ap (λ r. r >>= ending (Machine machine) true None) high_laid ∙ plain_ending (Machine machine) true high3 high3.list refl high_tested

pub returns-clause-low : goal.returns-clause-low
unfolding plan plan_as read_kernel some_purgatory linux_kernel kernel_reading with_field zeros tested_header read_header header_fault is_bzimage field count_ones params params_fault
returns-clause-low c = ap (λ r. r >>= ending (Machine machine) false None) low_laid ∙ plain_ending (Machine machine) false low3 low3.list refl low_tested
