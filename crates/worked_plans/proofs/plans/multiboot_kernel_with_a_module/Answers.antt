-- Each part has its place, and the segments pass their rules.
use Rattle.std.proofs.Common.{◌≡◌, [], ◌∷◌, false, Some, None, Ok, refl, ap, ◌∙◌, arith}
use Rattle.bzimage.specs.Signature.{is_bzimage}
use Rattle.hole_search.specs.declared.search.End.TheVariants.{Greatest}
use Rattle.kexec_plan.specs.Formats.{shown_format}
use Rattle.kexec_plan.specs.Ground.{Machine, ram}
use Rattle.kexec_plan.specs.Kernels.{multiboot_kernel, read_kernel}
use Rattle.kexec_plan.specs.Laying.{Information, Laid, Module, PlanPart, place_parts}
use Rattle.kexec_plan.specs.Places.{place, taken_by, taking}
use Rattle.kexec_plan.specs.Plan.{begin, plan, plan_as}
use Rattle.kexec_plan.specs.Purgatory.{some_purgatory}
use Rattle.kexec_plan.specs.Rules.{first_refusal, test_segments, unless_refused}
use Rattle.kx_fields.specs.Fields.{field, with_field, zeros}
use Rattle.kx_laws.specs.Results.{◌>>=◌}
use Rattle.multiboot_image.specs.Header.{find_header, header_of, header_place, unknown_bit}
use Rattle.multiboot_image.specs.Info.{info, info_text}
use Rattle.multiboot_image.specs.MapRows.{mem_lower, mem_upper, row_text as map_row_text}
use Rattle.multiboot_image.specs.Modules.{module_text}
use Rattle.multiboot_image.specs.Parts.{kludge_parts}
use Rattle.segments.specs.Rules.{refusal, shape_refusal}
use Rattle.segments.specs.declared.fault.Kind.TheVariants.{Normal}
use Rattle.std.proofs.lemmas.Bool.Decides.{nat_tests}
use Rattle.std.specs.Prelude.{codes}
use Rattle.worked_plans.proofs.Machining.{machine_runs}
use Rattle.worked_plans.proofs.Placing.{AreBlocked, AreFree, highest_at, placed}
use Rattle.worked_plans.proofs.Planning.{ending, laid_with, parts_done, parts_on, plain_ending}
use Rattle.worked_plans.specs.Machines.{machine, machine_rows}
use Rattle.worked_plans.specs.Multiboots.{a_module, multiboot_segment}
use Rattle.plan_faults.specs.declared.fault.Part.TheVariants as parts
use Rattle.worked_plans.proofs.plans.multiboot_kernel_with_a_module.Goals as goal

-- ---- kernel, module and information
abbrev modules0 : Laid
modules0 = begin (multiboot_segment ∷ []) 0x10_0020 (Some (codes "quiet"))

abbrev modules_part0 : PlanPart
modules_part0 = Module a_module

abbrev modules1 : Laid
modules1 = laid_with modules0 modules_part0 0x7ff000 0x1000

modules_free0 : AreFree (ram (Machine machine)) modules0.taken 0x7ff 1
unfolding ram taken_by taking
modules_free0 q from to = (grind (arith, nat_tests), grind (arith, nat_tests))

modules_blocked0 : AreBlocked (ram (Machine machine)) modules0.taken 0x800 0xffff_efff
unfolding ram taken_by taking
modules_blocked0 q from to = grind (arith, nat_tests)

modules_place0 : place (ram (Machine machine)) modules0.taken (record { part = parts.Module; length = 5; end = Greatest; align = 4096; min = 0; most = 0xffff_efff }) ≡ Ok (record { at = 0x7ff000; size = 0x1000 })
modules_place0 = placed (ram (Machine machine)) modules0.taken parts.Module 5 Greatest 4096 0 0xffff_efff 0x7ff000 refl (highest_at (ram (Machine machine)) modules0.taken parts.Module 5 0xffff_efff 0x7ff 1 refl (omega arith) modules_free0 (omega arith) modules_blocked0)

abbrev modules_part1 : PlanPart
modules_part1 = Information machine_rows

abbrev modules2 : Laid
modules2 = laid_with modules1 modules_part1 0x7fe000 0x1000

modules_free1 : AreFree (ram (Machine machine)) modules1.taken 0x7fe 1
unfolding ram taken_by taking
modules_free1 q from to = (grind (arith, nat_tests), grind (arith, nat_tests))

modules_blocked1 : AreBlocked (ram (Machine machine)) modules1.taken 0x7ff 0xffff_ffff
unfolding ram taken_by taking
modules_blocked1 q from to = grind (arith, nat_tests)

modules_place1 : place (ram (Machine machine)) modules1.taken (record { part = parts.Information; length = 215; end = Greatest; align = 4096; min = 0; most = 0xffff_ffff }) ≡ Ok (record { at = 0x7fe000; size = 0x1000 })
modules_place1 = placed (ram (Machine machine)) modules1.taken parts.Information 215 Greatest 4096 0 0xffff_ffff 0x7fe000 refl (highest_at (ram (Machine machine)) modules1.taken parts.Information 215 0xffff_ffff 0x7fe 1 refl (omega arith) modules_free1 (omega arith) modules_blocked1)

modules_laid : place_parts (ram (Machine machine)) modules0 (modules_part0 ∷ modules_part1 ∷ []) ≡ Ok modules2
modules_laid =
    parts_on (ram (Machine machine)) modules0 modules_part0 (modules_part1 ∷ []) 0x7ff000 0x1000 modules_place0
    ∙ parts_on (ram (Machine machine)) modules1 modules_part1 ([]) 0x7fe000 0x1000 modules_place1
    ∙ parts_done (ram (Machine machine)) modules2

modules_tested : test_segments (Machine machine) modules2.list ≡ Ok modules2.list
unfolding first_refusal test_segments refusal shape_refusal info info_text map_row_text mem_lower mem_upper module_text with_field zeros
modules_tested = ap (λ rs. unless_refused modules2.list (refusal rs Normal modules2.list)) machine_runs

pub returns : goal.returns
unfolding plan shown_format plan_as is_bzimage read_kernel some_purgatory multiboot_kernel find_header header_place header_of kludge_parts unknown_bit field
returns c = ap (λ r. r >>= ending (Machine machine) false None) modules_laid ∙ plain_ending (Machine machine) false modules2 modules2.list refl modules_tested
