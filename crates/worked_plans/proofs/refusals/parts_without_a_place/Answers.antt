-- No address fits by the rule of the part.
use Rattle.std.proofs.Common.{◌≡◌, ℕ, ◌+◌, ◌-◌, ◌/◌, ◌%◌, ◌≤◌, ◌<◌, [], ◌∷◌, true, false, Some, None, Ok, Err, refl, ap, ◌∙◌, arith}
use Rattle.boot_params.specs.Params.{params, params_fault, params_length}
use Rattle.bzimage.specs.Kernel.{header_fault, kernel_reading, read_header, tested_header}
use Rattle.bzimage.specs.Signature.{is_bzimage}
use Rattle.elf_image.specs.FileHeader.{object_fault, object_header, read_class, read_elf64}
use Rattle.elf_image.specs.Gathered.{gather}
use Rattle.elf_image.specs.Object.{object_reading}
use Rattle.elf_image.specs.Reloc.{entry_of, read_relocs, rela_fault, relocs_in, test_symbols}
use Rattle.elf_image.specs.Section.{read_table}
use Rattle.elf_image.specs.Symbol.{name_in, read_symbols, strings_of, symbol_in, symbols_in}
use Rattle.hole_search.specs.declared.search.End.TheVariants.{Greatest, Least}
use Rattle.kexec_plan.proofs.Holes.{hole_is}
use Rattle.kexec_plan.specs.Ground.{Machine, Reserved, ram}
use Rattle.kexec_plan.specs.Holes.{is_free}
use Rattle.kexec_plan.specs.Kernels.{linux_kernel, multiboot_kernel, read_kernel}
use Rattle.kexec_plan.specs.Laying.{Headers, Image, Information, Initrd, Laid, Module, Parameters, PlanPart, place_parts}
use Rattle.kexec_plan.specs.Parts.{part_size}
use Rattle.kexec_plan.specs.Places.{place, taken_by, taking}
use Rattle.kexec_plan.specs.Plan.{begin, plan, plan_as}
use Rattle.kexec_plan.specs.Purgatory.{purgatory_rule, read_purgatory, some_purgatory}
use Rattle.kexec_plan.specs.Table.{highest, kernel_rule}
use Rattle.kx_fields.specs.Fields.{field, with_field, zeros}
use Rattle.kx_laws.specs.Results.{◌>>=◌}
use Rattle.memory_map.specs.Maps.{outside, without_area}
use Rattle.multiboot_image.specs.Header.{find_header, header_of, header_place, unknown_bit}
use Rattle.multiboot_image.specs.Parts.{kludge_parts}
use Rattle.purgatory_link.specs.Layout.{end, linked_size, padding}
use Rattle.std.proofs.lemmas.Bool.Decides.{nat_tests}
use Rattle.std.specs.Int.RustNames.{count_ones}
use Rattle.std.specs.Prelude.{codes, replicate}
use Rattle.worked_plans.proofs.Placing.{AreBlocked, AreFree, lowest_at, not_placed, nowhere, placed}
use Rattle.worked_plans.proofs.Planning.{ending, laid_with, parts_on, parts_refused, purgatory_nowhere}
use Rattle.worked_plans.specs.LinuxKernels.{low_kernel}
use Rattle.worked_plans.specs.Machines.{ram_of, reserved_of}
use Rattle.worked_plans.specs.Multiboots.{a_module, multiboot_segment}
use Rattle.worked_plans.specs.Purgatories.{purgatory_of}
use Rattle.plan_faults.specs.declared.fault.Part.TheVariants as parts
use Rattle.plan_faults.specs.declared.fault.PlanFault.TheVariants as faults
use Rattle.worked_plans.proofs.refusals.parts_without_a_place.Goals as goal

-- ---- the kernel
abbrev kernel0 : Laid
kernel0 = begin [] 0 None

abbrev kernel_part0 : PlanPart
kernel_part0 = Image (kernel_rule low_kernel 1025) (0xeb ∷ [])

kernel_none : (x : ℕ) → 0x18_2000 ≤ x → ram (Machine (ram_of 0 8)) (x / 4096) ≡ true → ⊥
unfolding ram
kernel_none x above in_ram = grind (arith, nat_tests)

kernel_refused : place_parts (ram (Machine (ram_of 0 8))) kernel0 (kernel_part0 ∷ Initrd (highest parts.Initrd 6 0x6f_ffff) (codes "initrd") ∷ Parameters low_kernel (record { start = 0x0; size = 0x8000; kind = 1 } ∷ []) ∷ []) ≡ Err (faults.NoHole parts.Kernel)
unfolding params_length
kernel_refused =
    parts_refused (ram (Machine (ram_of 0 8))) kernel0 kernel_part0 (Initrd (highest parts.Initrd 6 0x6f_ffff) (codes "initrd") ∷ Parameters low_kernel (record { start = 0x0; size = 0x8000; kind = 1 } ∷ []) ∷ []) (faults.NoHole parts.Kernel) (not_placed (ram (Machine (ram_of 0 8))) kernel0.taken parts.Kernel 0x3000 Least 0x4000 0x18_2000 0xffff_ffff refl (hole_is (ram (Machine (ram_of 0 8))) kernel0.taken (record { part = parts.Kernel; length = 0x3000; end = Least; align = 0x4000; min = 0x18_2000; most = 0xffff_ffff }) None (λ x h. kernel_none x h.above (h.in_ram (x / 4096) (omega arith) (omega arith)))))

-- ---- the initrd
abbrev initrd0 : Laid
initrd0 = begin [] 0 (Some (replicate 23 0x61))

abbrev initrd_part0 : PlanPart
initrd_part0 = Image (kernel_rule low_kernel 1025) (0xeb ∷ [])

abbrev initrd1 : Laid
initrd1 = laid_with initrd0 initrd_part0 0x184000 0x3000

initrd_free0 : AreFree (ram (Machine (ram_of 0x184 3))) initrd0.taken 0x184 3
unfolding ram taken_by taking
initrd_free0 q from to = (grind (arith, nat_tests), grind (arith, nat_tests))

initrd_place0 : place (ram (Machine (ram_of 0x184 3))) initrd0.taken (record { part = parts.Kernel; length = 0x3000; end = Least; align = 0x4000; min = 0x18_2000; most = 0xffff_ffff }) ≡ Ok (record { at = 0x184000; size = 0x3000 })
initrd_place0 = placed (ram (Machine (ram_of 0x184 3))) initrd0.taken parts.Kernel 0x3000 Least 0x4000 0x18_2000 0xffff_ffff 0x184000 refl (lowest_at (ram (Machine (ram_of 0x184 3))) initrd0.taken parts.Kernel 0x3000 0x4000 0x18_2000 0xffff_ffff 0x184 3 refl (omega arith) refl (omega arith) initrd_free0 (omega arith) (λ x a m l first last. omega (arith, a, m, l)))

abbrev initrd_part1 : PlanPart
initrd_part1 = Initrd (highest parts.Initrd 6 0x6f_ffff) (codes "initrd")

initrd_none : AreBlocked (ram (Machine (ram_of 0x184 3))) initrd1.taken 0 0x6f_ffff
unfolding ram taken_by taking
initrd_none q from to = grind (arith, nat_tests)

initrd_refused : place_parts (ram (Machine (ram_of 0x184 3))) initrd0 (initrd_part0 ∷ initrd_part1 ∷ Parameters low_kernel (record { start = 0x184000; size = 0x3000; kind = 1 } ∷ []) ∷ []) ≡ Err (faults.NoHole parts.Initrd)
unfolding params_length
initrd_refused =
    parts_on (ram (Machine (ram_of 0x184 3))) initrd0 initrd_part0 (initrd_part1 ∷ Parameters low_kernel (record { start = 0x184000; size = 0x3000; kind = 1 } ∷ []) ∷ []) 0x184000 0x3000 initrd_place0
    ∙ parts_refused (ram (Machine (ram_of 0x184 3))) initrd1 initrd_part1 (Parameters low_kernel (record { start = 0x184000; size = 0x3000; kind = 1 } ∷ []) ∷ []) (faults.NoHole parts.Initrd) (not_placed (ram (Machine (ram_of 0x184 3))) initrd1.taken parts.Initrd 6 Greatest 4096 0 0x6f_ffff refl (nowhere (ram (Machine (ram_of 0x184 3))) initrd1.taken parts.Initrd 6 0x6f_ffff initrd_none))

-- ---- the boot parameters
abbrev parameters0 : Laid
parameters0 = begin [] 0 None

abbrev parameters_part0 : PlanPart
parameters_part0 = Image (kernel_rule low_kernel 1025) (0xeb ∷ [])

abbrev parameters1 : Laid
parameters1 = laid_with parameters0 parameters_part0 0x184000 0x3000

parameters_free0 : AreFree (ram (Machine (ram_of 0x184 3))) parameters0.taken 0x184 3
unfolding ram taken_by taking
parameters_free0 q from to = (grind (arith, nat_tests), grind (arith, nat_tests))

parameters_place0 : place (ram (Machine (ram_of 0x184 3))) parameters0.taken (record { part = parts.Kernel; length = 0x3000; end = Least; align = 0x4000; min = 0x18_2000; most = 0xffff_ffff }) ≡ Ok (record { at = 0x184000; size = 0x3000 })
parameters_place0 = placed (ram (Machine (ram_of 0x184 3))) parameters0.taken parts.Kernel 0x3000 Least 0x4000 0x18_2000 0xffff_ffff 0x184000 refl (lowest_at (ram (Machine (ram_of 0x184 3))) parameters0.taken parts.Kernel 0x3000 0x4000 0x18_2000 0xffff_ffff 0x184 3 refl (omega arith) refl (omega arith) parameters_free0 (omega arith) (λ x a m l first last. omega (arith, a, m, l)))

abbrev parameters_part1 : PlanPart
parameters_part1 = Parameters low_kernel (record { start = 0x184000; size = 0x3000; kind = 1 } ∷ [])

parameters_none : AreBlocked (ram (Machine (ram_of 0x184 3))) parameters1.taken 0 0xffff_ffff
unfolding ram taken_by taking
parameters_none q from to = grind (arith, nat_tests)

parameters_refused : place_parts (ram (Machine (ram_of 0x184 3))) parameters0 (parameters_part0 ∷ parameters_part1 ∷ []) ≡ Err (faults.NoHole parts.Parameters)
unfolding params_length
parameters_refused =
    parts_on (ram (Machine (ram_of 0x184 3))) parameters0 parameters_part0 (parameters_part1 ∷ []) 0x184000 0x3000 parameters_place0
    ∙ parts_refused (ram (Machine (ram_of 0x184 3))) parameters1 parameters_part1 ([]) (faults.NoHole parts.Parameters) (not_placed (ram (Machine (ram_of 0x184 3))) parameters1.taken parts.Parameters 4097 Greatest 4096 0 0xffff_ffff refl (nowhere (ram (Machine (ram_of 0x184 3))) parameters1.taken parts.Parameters 4097 0xffff_ffff parameters_none))

-- ---- the crash headers
abbrev headers0 : Laid
headers0 = begin [] 0 None

abbrev headers_part0 : PlanPart
headers_part0 = Image (kernel_rule low_kernel 1025) (0xeb ∷ [])

abbrev headers1 : Laid
headers1 = laid_with headers0 headers_part0 0x184000 0x3000

headers_free0 : AreFree (ram (Reserved (reserved_of 0x184 3) (record { first = 0x184; count = 3 }))) headers0.taken 0x184 3
unfolding ram taken_by taking
headers_free0 q from to = (grind (arith, nat_tests), grind (arith, nat_tests))

headers_lower : (x : ℕ) → x % 0x4000 ≡ 0 → 0x18_2000 ≤ x → x < 0x184000 → is_free (ram (Reserved (reserved_of 0x184 3) (record { first = 0x184; count = 3 }))) headers0.taken (x / 4096) ≡ true → is_free (ram (Reserved (reserved_of 0x184 3) (record { first = 0x184; count = 3 }))) headers0.taken ((x + part_size 0x3000 - 1) / 4096) ≡ true → ⊥
unfolding ram taken_by taking
headers_lower x a m l first last = grind (arith, nat_tests)

headers_place0 : place (ram (Reserved (reserved_of 0x184 3) (record { first = 0x184; count = 3 }))) headers0.taken (record { part = parts.Kernel; length = 0x3000; end = Least; align = 0x4000; min = 0x18_2000; most = 0xffff_ffff }) ≡ Ok (record { at = 0x184000; size = 0x3000 })
headers_place0 = placed (ram (Reserved (reserved_of 0x184 3) (record { first = 0x184; count = 3 }))) headers0.taken parts.Kernel 0x3000 Least 0x4000 0x18_2000 0xffff_ffff 0x184000 refl (lowest_at (ram (Reserved (reserved_of 0x184 3) (record { first = 0x184; count = 3 }))) headers0.taken parts.Kernel 0x3000 0x4000 0x18_2000 0xffff_ffff 0x184 3 refl (omega arith) refl (omega arith) headers_free0 (omega arith) (headers_lower))

abbrev headers_part1 : PlanPart
headers_part1 = Headers (highest parts.Headers 232 0xffff_ffff) (reserved_of 0x184 3) (record { start = 0x18_4000; size = 0x400 } ∷ [])

headers_none : AreBlocked (ram (Reserved (reserved_of 0x184 3) (record { first = 0x184; count = 3 }))) headers1.taken 0 0xffff_ffff
unfolding ram taken_by taking
headers_none q from to = grind (arith, nat_tests)

headers_refused : place_parts (ram (Reserved (reserved_of 0x184 3) (record { first = 0x184; count = 3 }))) headers0 (headers_part0 ∷ headers_part1 ∷ Parameters low_kernel (record { start = 0x184000; size = 0x3000; kind = 1 } ∷ []) ∷ []) ≡ Err (faults.NoHole parts.Headers)
unfolding params_length
headers_refused =
    parts_on (ram (Reserved (reserved_of 0x184 3) (record { first = 0x184; count = 3 }))) headers0 headers_part0 (headers_part1 ∷ Parameters low_kernel (record { start = 0x184000; size = 0x3000; kind = 1 } ∷ []) ∷ []) 0x184000 0x3000 headers_place0
    ∙ parts_refused (ram (Reserved (reserved_of 0x184 3) (record { first = 0x184; count = 3 }))) headers1 headers_part1 (Parameters low_kernel (record { start = 0x184000; size = 0x3000; kind = 1 } ∷ []) ∷ []) (faults.NoHole parts.Headers) (not_placed (ram (Reserved (reserved_of 0x184 3) (record { first = 0x184; count = 3 }))) headers1.taken parts.Headers 232 Greatest 4096 0 0xffff_ffff refl (nowhere (ram (Reserved (reserved_of 0x184 3) (record { first = 0x184; count = 3 }))) headers1.taken parts.Headers 232 0xffff_ffff headers_none))

-- ---- a module
abbrev modules0 : Laid
modules0 = begin (multiboot_segment ∷ []) 0x10_0020 None

abbrev modules_part0 : PlanPart
modules_part0 = Module a_module

modules_none : AreBlocked (ram (Machine (ram_of 0x100 1))) modules0.taken 0 0xffff_efff
unfolding ram taken_by taking
modules_none q from to = grind (arith, nat_tests)

modules_refused : place_parts (ram (Machine (ram_of 0x100 1))) modules0 (modules_part0 ∷ Information (record { start = 0x100000; size = 0x1000; kind = 1 } ∷ []) ∷ []) ≡ Err (faults.NoHole parts.Module)
unfolding params_length
modules_refused =
    parts_refused (ram (Machine (ram_of 0x100 1))) modules0 modules_part0 (Information (record { start = 0x100000; size = 0x1000; kind = 1 } ∷ []) ∷ []) (faults.NoHole parts.Module) (not_placed (ram (Machine (ram_of 0x100 1))) modules0.taken parts.Module 5 Greatest 4096 0 0xffff_efff refl (nowhere (ram (Machine (ram_of 0x100 1))) modules0.taken parts.Module 5 0xffff_efff modules_none))

-- ---- the information
abbrev information0 : Laid
information0 = begin (multiboot_segment ∷ []) 0x10_0020 None

abbrev information_part0 : PlanPart
information_part0 = Information (record { start = 0x100000; size = 0x1000; kind = 1 } ∷ [])

information_none : AreBlocked (ram (Machine (ram_of 0x100 1))) information0.taken 0 0xffff_ffff
unfolding ram taken_by taking
information_none q from to = grind (arith, nat_tests)

information_refused : place_parts (ram (Machine (ram_of 0x100 1))) information0 (information_part0 ∷ []) ≡ Err (faults.NoHole parts.Information)
unfolding params_length
information_refused =
    parts_refused (ram (Machine (ram_of 0x100 1))) information0 information_part0 ([]) (faults.NoHole parts.Information) (not_placed (ram (Machine (ram_of 0x100 1))) information0.taken parts.Information 119 Greatest 4096 0 0xffff_ffff refl (nowhere (ram (Machine (ram_of 0x100 1))) information0.taken parts.Information 119 0xffff_ffff information_none))

-- ---- the purgatory
abbrev purgatory0 : Laid
purgatory0 = begin (record { bytes = codes "abc"; mem = 0x10_0000; memsz = 0x1000 } ∷ []) 0 None

purgatory_none : AreBlocked (ram (Machine (ram_of 0x100 1))) purgatory0.taken 0 0x7fff_ffff
unfolding ram taken_by taking
purgatory_none q from to = grind (arith, nat_tests)

purgatory_refused : place (ram (Machine (ram_of 0x100 1))) purgatory0.taken (purgatory_rule 0x7fff_ffff (purgatory_of 136)) ≡ Err (faults.NoHole parts.Purgatory)
purgatory_refused = not_placed (ram (Machine (ram_of 0x100 1))) purgatory0.taken parts.Purgatory 4096 Greatest 4096 0 0x7fff_ffff refl (nowhere (ram (Machine (ram_of 0x100 1))) purgatory0.taken parts.Purgatory 4096 0x7fff_ffff purgatory_none)

pub returns-clause-kernel : goal.returns-clause-kernel
unfolding plan plan_as read_kernel some_purgatory linux_kernel kernel_reading with_field zeros tested_header read_header header_fault is_bzimage field count_ones params params_fault
returns-clause-kernel c = ap (λ r. r >>= ending (Machine (ram_of 0 8)) false None) kernel_refused

pub returns-clause-initrd : goal.returns-clause-initrd
unfolding plan plan_as read_kernel some_purgatory linux_kernel kernel_reading with_field zeros tested_header read_header header_fault is_bzimage field count_ones params params_fault
returns-clause-initrd c = ap (λ r. r >>= ending (Machine (ram_of 0x184 3)) false None) initrd_refused

pub returns-clause-parameters : goal.returns-clause-parameters
unfolding plan plan_as read_kernel some_purgatory linux_kernel kernel_reading with_field zeros tested_header read_header header_fault is_bzimage field count_ones params params_fault
returns-clause-parameters c = ap (λ r. r >>= ending (Machine (ram_of 0x184 3)) false None) parameters_refused

pub returns-clause-headers : goal.returns-clause-headers
unfolding plan plan_as read_kernel some_purgatory linux_kernel kernel_reading with_field zeros tested_header read_header header_fault is_bzimage field count_ones params params_fault outside without_area
returns-clause-headers c = ap (λ r. r >>= ending (Reserved (reserved_of 0x184 3) (record { first = 0x184; count = 3 })) false None) headers_refused

pub returns-clause-module : goal.returns-clause-module
unfolding plan plan_as read_kernel some_purgatory multiboot_kernel find_header header_place header_of kludge_parts unknown_bit field
returns-clause-module c = ap (λ r. r >>= ending (Machine (ram_of 0x100 1)) false None) modules_refused

pub returns-clause-information : goal.returns-clause-information
unfolding plan plan_as read_kernel some_purgatory multiboot_kernel find_header header_place header_of kludge_parts unknown_bit field
returns-clause-information c = ap (λ r. r >>= ending (Machine (ram_of 0x100 1)) false None) information_refused

pub returns-clause-purgatory : goal.returns-clause-purgatory
unfolding plan plan_as read_kernel some_purgatory place_parts read_purgatory object_reading linked_size read_table read_symbols read_relocs end object_header gather read_elf64 object_fault symbols_in relocs_in padding read_class strings_of rela_fault test_symbols symbol_in entry_of name_in field
returns-clause-purgatory c = purgatory_nowhere (Machine (ram_of 0x100 1)) false (purgatory_of 136) purgatory0 (faults.NoHole parts.Purgatory) purgatory_refused
