-- Each part has its place, and the segments pass their rules.
use Rattle.std.proofs.Common.{◌≡◌, ℕ, ◌+◌, ◌-◌, ◌/◌, ◌%◌, ◌≤◌, ◌<◌, [], ◌∷◌, true, Some, None, Ok, refl, ap, ◌∙◌, arith}
use Rattle.boot_params.specs.Params.{params, params_fault, params_length, params_text}
use Rattle.boot_params.specs.SetupData.{extension}
use Rattle.boot_params.specs.ZeroPage.{page_text, row_text}
use Rattle.bzimage.specs.Kernel.{header_fault, kernel_reading, read_header, tested_header}
use Rattle.bzimage.specs.Signature.{is_bzimage}
use Rattle.crash_headers.specs.Headers.{headers}
use Rattle.elf_headers.specs.FileHeader.{header_text}
use Rattle.elf_headers.specs.ProgramHeader.{row_text as header_row_text}
use Rattle.hole_search.specs.declared.search.End.TheVariants.{Greatest, Least}
use Rattle.kexec_plan.specs.Ground.{Reserved, ram}
use Rattle.kexec_plan.specs.Holes.{is_free}
use Rattle.kexec_plan.specs.Kernels.{linux_kernel, read_kernel}
use Rattle.kexec_plan.specs.Laying.{Headers, Image, Laid, Parameters, PlanPart, place_parts}
use Rattle.kexec_plan.specs.Parts.{part_size}
use Rattle.kexec_plan.specs.Places.{place, taken_by, taking}
use Rattle.kexec_plan.specs.Plan.{begin, plan, plan_as}
use Rattle.kexec_plan.specs.Purgatory.{some_purgatory}
use Rattle.kexec_plan.specs.Rules.{first_refusal, test_segments, unless_refused}
use Rattle.kexec_plan.specs.Table.{highest, kernel_rule}
use Rattle.kx_fields.specs.Fields.{field, with_field, zeros}
use Rattle.kx_laws.specs.Results.{◌>>=◌}
use Rattle.memory_map.specs.Maps.{outside, without_area}
use Rattle.segments.specs.Rules.{refusal, shape_refusal}
use Rattle.segments.specs.declared.fault.Kind.TheVariants.{Crash}
use Rattle.std.proofs.lemmas.Bool.Decides.{nat_tests}
use Rattle.std.specs.Fmt.{digits}
use Rattle.std.specs.Int.RustNames.{count_ones}
use Rattle.std.specs.Prelude.{codes}
use Rattle.worked_plans.proofs.Machining.{machine_runs}
use Rattle.worked_plans.proofs.Placing.{AreBlocked, AreFree, highest_at, lowest_at, placed}
use Rattle.worked_plans.proofs.Planning.{ending, laid_with, parts_done, parts_on, plain_ending}
use Rattle.worked_plans.specs.LinuxKernels.{high_kernel}
use Rattle.worked_plans.specs.Machines.{area, crash_rows, machine, one_note}
use Rattle.plan_faults.specs.declared.fault.Part.TheVariants as parts
use Rattle.worked_plans.proofs.plans.crash_kernel.Goals as goal

-- ---- kernel, headers and parameters in the area
abbrev crash0 : Laid
crash0 = begin [] 0 (Some (codes "quiet"))

abbrev crash_part0 : PlanPart
crash_part0 = Image (kernel_rule high_kernel 1025) (0xeb ∷ [])

abbrev crash1 : Laid
crash1 = laid_with crash0 crash_part0 0x400000 0x3000

crash_free0 : AreFree (ram (Reserved machine area)) crash0.taken 0x400 3
unfolding ram taken_by taking
crash_free0 q from to = (grind (arith, nat_tests), grind (arith, nat_tests))

crash_lower : (x : ℕ) → x % 0x4000 ≡ 0 → 0x18_2000 ≤ x → x < 0x400000 → is_free (ram (Reserved machine area)) crash0.taken (x / 4096) ≡ true → is_free (ram (Reserved machine area)) crash0.taken ((x + part_size 0x3000 - 1) / 4096) ≡ true → ⊥
unfolding ram taken_by taking
crash_lower x a m l first last = grind (arith, nat_tests)

crash_place0 : place (ram (Reserved machine area)) crash0.taken (record { part = parts.Kernel; length = 0x3000; end = Least; align = 0x4000; min = 0x18_2000; most = 0x3fff_ffff_ffff }) ≡ Ok (record { at = 0x400000; size = 0x3000 })
crash_place0 = placed (ram (Reserved machine area)) crash0.taken parts.Kernel 0x3000 Least 0x4000 0x18_2000 0x3fff_ffff_ffff 0x400000 refl (lowest_at (ram (Reserved machine area)) crash0.taken parts.Kernel 0x3000 0x4000 0x18_2000 0x3fff_ffff_ffff 0x400 3 refl (omega arith) refl (omega arith) crash_free0 (omega arith) (crash_lower))

abbrev crash_part1 : PlanPart
crash_part1 = Headers (highest parts.Headers 344 0x3fff_ffff_ffff) machine one_note

abbrev crash2 : Laid
crash2 = laid_with crash1 crash_part1 0x4ff000 0x1000

crash_free1 : AreFree (ram (Reserved machine area)) crash1.taken 0x4ff 1
unfolding ram taken_by taking
crash_free1 q from to = (grind (arith, nat_tests), grind (arith, nat_tests))

crash_blocked1 : AreBlocked (ram (Reserved machine area)) crash1.taken 0x500 0x3fff_ffff_ffff
unfolding ram taken_by taking
crash_blocked1 q from to = grind (arith, nat_tests)

crash_place1 : place (ram (Reserved machine area)) crash1.taken (record { part = parts.Headers; length = 344; end = Greatest; align = 4096; min = 0; most = 0x3fff_ffff_ffff }) ≡ Ok (record { at = 0x4ff000; size = 0x1000 })
crash_place1 = placed (ram (Reserved machine area)) crash1.taken parts.Headers 344 Greatest 4096 0 0x3fff_ffff_ffff 0x4ff000 refl (highest_at (ram (Reserved machine area)) crash1.taken parts.Headers 344 0x3fff_ffff_ffff 0x4ff 1 refl (omega arith) crash_free1 (omega arith) crash_blocked1)

abbrev crash_part2 : PlanPart
crash_part2 = Parameters high_kernel crash_rows

abbrev crash3 : Laid
crash3 = laid_with crash2 crash_part2 0x4fd000 0x2000

crash_free2 : AreFree (ram (Reserved machine area)) crash2.taken 0x4fd 2
unfolding ram taken_by taking
crash_free2 q from to = (grind (arith, nat_tests), grind (arith, nat_tests))

crash_blocked2 : AreBlocked (ram (Reserved machine area)) crash2.taken 0x4ff 0x3fff_ffff_ffff
unfolding ram taken_by taking
crash_blocked2 q from to = grind (arith, nat_tests)

crash_place2 : place (ram (Reserved machine area)) crash2.taken (record { part = parts.Parameters; length = 4119; end = Greatest; align = 4096; min = 0; most = 0x3fff_ffff_ffff }) ≡ Ok (record { at = 0x4fd000; size = 0x2000 })
crash_place2 = placed (ram (Reserved machine area)) crash2.taken parts.Parameters 4119 Greatest 4096 0 0x3fff_ffff_ffff 0x4fd000 refl (highest_at (ram (Reserved machine area)) crash2.taken parts.Parameters 4119 0x3fff_ffff_ffff 0x4fd 2 refl (omega arith) crash_free2 (omega arith) crash_blocked2)

crash_laid : place_parts (ram (Reserved machine area)) crash0 (crash_part0 ∷ crash_part1 ∷ crash_part2 ∷ []) ≡ Ok crash3
unfolding params_length digits outside without_area
crash_laid =
    parts_on (ram (Reserved machine area)) crash0 crash_part0 (crash_part1 ∷ crash_part2 ∷ []) 0x400000 0x3000 crash_place0
    ∙ parts_on (ram (Reserved machine area)) crash1 crash_part1 (crash_part2 ∷ []) 0x4ff000 0x1000 crash_place1
    ∙ parts_on (ram (Reserved machine area)) crash2 crash_part2 ([]) 0x4fd000 0x2000 crash_place2
    ∙ parts_done (ram (Reserved machine area)) crash3

crash_tested : test_segments (Reserved machine area) crash3.list ≡ Ok crash3.list
unfolding first_refusal test_segments refusal shape_refusal params params_fault params_text page_text row_text extension with_field zeros digits outside without_area headers header_text header_row_text
crash_tested = ap (λ rs. unless_refused crash3.list (refusal rs (Crash area) crash3.list)) machine_runs

pub returns : goal.returns
unfolding plan plan_as read_kernel some_purgatory linux_kernel kernel_reading with_field zeros tested_header read_header header_fault is_bzimage field count_ones params params_fault digits outside without_area
returns c = ap (λ r. r >>= ending (Reserved machine area) true None) crash_laid ∙ plain_ending (Reserved machine area) true crash3 crash3.list refl crash_tested
