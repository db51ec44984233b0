-- Each part has its place, and the segments pass their rules.
use Rattle.std.proofs.Common.{◌≡◌, [], ◌∷◌, false, Some, None, Ok, refl, ap, ◌∙◌, arith, ◌++◌}
use Rattle.boot_params.specs.Params.{params, params_fault, params_length, params_text}
use Rattle.boot_params.specs.SetupData.{extension}
use Rattle.boot_params.specs.ZeroPage.{page_text, row_text}
use Rattle.bzimage.specs.Kernel.{header_fault, kernel_reading, read_header, tested_header}
use Rattle.bzimage.specs.Signature.{is_bzimage}
use Rattle.elf_image.specs.FileHeader.{object_fault, object_header, read_class, read_elf64}
use Rattle.elf_image.specs.Gathered.{gather}
use Rattle.elf_image.specs.Object.{object_reading}
use Rattle.elf_image.specs.Reloc.{entry_of, read_relocs, rela_fault, relocs_in, test_symbols}
use Rattle.elf_image.specs.Section.{read_table}
use Rattle.elf_image.specs.Symbol.{name_in, read_symbols, strings_of, symbol_in, symbols_in}
use Rattle.hole_search.specs.declared.search.End.TheVariants.{Greatest, Least}
use Rattle.kexec_plan.specs.Ground.{Machine, ram}
use Rattle.kexec_plan.specs.Kernels.{linux_kernel, read_kernel}
use Rattle.kexec_plan.specs.Laying.{Image, Laid, Parameters, PlanPart, place_parts}
use Rattle.kexec_plan.specs.Places.{place, taken_by, taking}
use Rattle.kexec_plan.specs.Plan.{begin, plan, plan_as}
use Rattle.kexec_plan.specs.Purgatory.{linked_at, purgatory_rule, read_purgatory, some_purgatory, symbol_address, symbol_place, symbols_of}
use Rattle.kexec_plan.specs.Rules.{first_refusal, test_segments, unless_refused}
use Rattle.kexec_plan.specs.Table.{kernel_rule}
use Rattle.kx_fields.specs.Fields.{field, with_field, zeros}
use Rattle.kx_laws.specs.Results.{◌>>=◌}
use Rattle.purgatory_link.specs.Layout.{end, lay, linked_size, padding, starts}
use Rattle.purgatory_link.specs.Link.{link_at, linking}
use Rattle.purgatory_link.specs.Relocs.{put_of, puts_of, relocate, test_place, with_puts}
use Rattle.purgatory_link.specs.Set.{symbol_of}
use Rattle.purgatory_link.specs.Symbols.{symbol_value}
use Rattle.segments.specs.Rules.{refusal, shape_refusal}
use Rattle.segments.specs.declared.fault.Kind.TheVariants.{Normal}
use Rattle.std.proofs.lemmas.Bool.Decides.{nat_tests}
use Rattle.std.specs.Int.RustNames.{count_ones}
use Rattle.worked_plans.proofs.Machining.{machine_runs}
use Rattle.worked_plans.proofs.Placing.{AreBlocked, AreFree, highest_at, lowest_at, placed}
use Rattle.worked_plans.proofs.Planning.{armed_ending, ending, laid_with, parts_done, parts_on}
use Rattle.worked_plans.specs.LinuxKernels.{low_kernel}
use Rattle.worked_plans.specs.Machines.{machine, machine_rows}
use Rattle.worked_plans.specs.Plans.{unarmed}
use Rattle.worked_plans.specs.Purgatories.{linkage, purgatory_of}
use Rattle.plan_faults.specs.declared.fault.Part.TheVariants as parts
use Rattle.worked_plans.proofs.plans.linux_kernel_behind_a_purgatory.Goals as goal

-- ---- kernel and parameters, and then the purgatory
abbrev both0 : Laid
both0 = begin [] 0 None

abbrev both_part0 : PlanPart
both_part0 = Image (kernel_rule low_kernel 1025) (0xeb ∷ [])

abbrev both1 : Laid
both1 = laid_with both0 both_part0 0x184000 0x3000

both_free0 : AreFree (ram (Machine machine)) both0.taken 0x184 3
unfolding ram taken_by taking
both_free0 q from to = (grind (arith, nat_tests), grind (arith, nat_tests))

both_place0 : place (ram (Machine machine)) both0.taken (record { part = parts.Kernel; length = 0x3000; end = Least; align = 0x4000; min = 0x18_2000; most = 0xffff_ffff }) ≡ Ok (record { at = 0x184000; size = 0x3000 })
both_place0 = placed (ram (Machine machine)) both0.taken parts.Kernel 0x3000 Least 0x4000 0x18_2000 0xffff_ffff 0x184000 refl (lowest_at (ram (Machine machine)) both0.taken parts.Kernel 0x3000 0x4000 0x18_2000 0xffff_ffff 0x184 3 refl (omega arith) refl (omega arith) both_free0 (omega arith) (λ x a m l first last. omega (arith, a, m, l)))

abbrev both_part1 : PlanPart
both_part1 = Parameters low_kernel machine_rows

abbrev both2 : Laid
both2 = laid_with both1 both_part1 0x7fe000 0x2000

both_free1 : AreFree (ram (Machine machine)) both1.taken 0x7fe 2
unfolding ram taken_by taking
both_free1 q from to = (grind (arith, nat_tests), grind (arith, nat_tests))

both_blocked1 : AreBlocked (ram (Machine machine)) both1.taken 0x800 0xffff_ffff
unfolding ram taken_by taking
both_blocked1 q from to = grind (arith, nat_tests)

both_place1 : place (ram (Machine machine)) both1.taken (record { part = parts.Parameters; length = 4097; end = Greatest; align = 4096; min = 0; most = 0xffff_ffff }) ≡ Ok (record { at = 0x7fe000; size = 0x2000 })
both_place1 = placed (ram (Machine machine)) both1.taken parts.Parameters 4097 Greatest 4096 0 0xffff_ffff 0x7fe000 refl (highest_at (ram (Machine machine)) both1.taken parts.Parameters 4097 0xffff_ffff 0x7fe 2 refl (omega arith) both_free1 (omega arith) both_blocked1)

both_laid : place_parts (ram (Machine machine)) both0 (both_part0 ∷ both_part1 ∷ []) ≡ Ok both2
unfolding params_length
both_laid =
    parts_on (ram (Machine machine)) both0 both_part0 (both_part1 ∷ []) 0x184000 0x3000 both_place0
    ∙ parts_on (ram (Machine machine)) both1 both_part1 ([]) 0x7fe000 0x2000 both_place1
    ∙ parts_done (ram (Machine machine)) both2

both_free : AreFree (ram (Machine machine)) both2.taken 0x7fd 1
unfolding ram taken_by taking
both_free q from to = (grind (arith, nat_tests), grind (arith, nat_tests))

both_blocked : AreBlocked (ram (Machine machine)) both2.taken 0x7fe 0x7fff_ffff
unfolding ram taken_by taking
both_blocked q from to = grind (arith, nat_tests)

both_purgatory : place (ram (Machine machine)) both2.taken (purgatory_rule 0x7fff_ffff (purgatory_of 136)) ≡ Ok (record { at = 0x7f_d000; size = 4096 })
both_purgatory = placed (ram (Machine machine)) both2.taken parts.Purgatory 4096 Greatest 4096 0 0x7fff_ffff 0x7f_d000 refl (highest_at (ram (Machine machine)) both2.taken parts.Purgatory 4096 0x7fff_ffff 0x7fd 1 refl (omega arith) both_free (omega arith) both_blocked)

both_linked : linked_at (purgatory_of 136) (record { at = 0x7f_d000; size = 4096 }) ≡ Ok (linkage 0x7f_d000)
unfolding linked_at linking linked_size link_at end relocate puts_of with_puts starts lay padding put_of entry_of test_place symbol_value symbols_of symbol_place symbol_address symbol_of field
both_linked = refl

both_tested : test_segments (Machine machine) (both2.list ++ unarmed 0x7f_d000 ∷ []) ≡ Ok (both2.list ++ unarmed 0x7f_d000 ∷ [])
unfolding first_refusal test_segments refusal shape_refusal params params_fault params_text page_text row_text extension with_field zeros
both_tested = ap (λ rs. unless_refused (both2.list ++ unarmed 0x7f_d000 ∷ []) (refusal rs Normal (both2.list ++ unarmed 0x7f_d000 ∷ []))) machine_runs

pub returns : goal.returns
unfolding plan plan_as read_kernel some_purgatory linux_kernel kernel_reading with_field zeros tested_header read_header header_fault is_bzimage field count_ones params params_fault read_purgatory object_reading linked_size read_table read_symbols read_relocs end object_header gather read_elf64 object_fault symbols_in relocs_in padding read_class strings_of rela_fault test_symbols symbol_in entry_of name_in
returns c = ap (λ r. r >>= ending (Machine machine) false (Some (purgatory_of 136))) both_laid ∙ armed_ending (Machine machine) false (purgatory_of 136) both2 0x7f_d000 4096 (linkage 0x7f_d000) (both2.list ++ unarmed 0x7f_d000 ∷ []) both_purgatory refl both_linked both_tested
