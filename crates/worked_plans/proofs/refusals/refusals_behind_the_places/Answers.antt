-- Each part has its place, and what refuses it stands behind.
use Rattle.std.proofs.Common.{◌≡◌, ℕ, ◌+◌, ◌-◌, ◌/◌, ◌%◌, ◌≤◌, ◌<◌, [], ◌∷◌, true, false, Some, None, Ok, Err, refl, ap, ◌∙◌, arith}
use Rattle.boot_params.specs.Params.{params, params_fault, params_length, params_text}
use Rattle.boot_params.specs.SetupData.{extension}
use Rattle.boot_params.specs.ZeroPage.{page_text, row_text}
use Rattle.bzimage.specs.Kernel.{header_fault, kernel_reading, read_header, tested_header}
use Rattle.bzimage.specs.Signature.{is_bzimage}
use Rattle.elf_image.specs.FileHeader.{object_fault, object_header, read_class, read_elf64}
use Rattle.elf_image.specs.Gathered.{gather}
use Rattle.elf_image.specs.Object.{object_reading}
use Rattle.elf_image.specs.Reloc.{entry_of, read_relocs, rela_fault, relocs_in, test_symbols}
use Rattle.elf_image.specs.Section.{read_table}
use Rattle.elf_image.specs.Symbol.{name_in, read_symbols, strings_of, symbol_in, symbols_in}
use Rattle.hole_search.specs.declared.search.End.TheVariants.{Greatest, Least}
use Rattle.kexec_plan.proofs.Ram.{are_ram_runs}
use Rattle.kexec_plan.specs.Ground.{Machine, Reserved, ram}
use Rattle.kexec_plan.specs.Holes.{is_free}
use Rattle.kexec_plan.specs.Kernels.{linux_kernel, read_kernel}
use Rattle.kexec_plan.specs.Laying.{Headers, Image, Laid, Parameters, PlanPart, place_parts}
use Rattle.kexec_plan.specs.Parts.{part_size}
use Rattle.kexec_plan.specs.Places.{place, taken_by, taking}
use Rattle.kexec_plan.specs.Plan.{begin, plan, plan_as}
use Rattle.kexec_plan.specs.Purgatory.{linked_at, purgatory_rule, read_purgatory, some_purgatory, symbol_address, symbol_place, symbols_of}
use Rattle.kexec_plan.specs.Rules.{first_refusal, ram_runs, test_segments, unless_refused}
use Rattle.kexec_plan.specs.Table.{highest, kernel_rule}
use Rattle.kx_fields.specs.Fields.{field, with_field, zeros}
use Rattle.kx_laws.specs.Results.{◌>>=◌}
use Rattle.memory_map.specs.Maps.{outside, without_area}
use Rattle.purgatory_link.specs.Layout.{end, lay, linked_size, padding, starts}
use Rattle.purgatory_link.specs.Link.{link_at, linking}
use Rattle.purgatory_link.specs.Relocs.{put_of, puts_of, relocate, test_place, with_puts}
use Rattle.purgatory_link.specs.Set.{symbol_of}
use Rattle.purgatory_link.specs.Symbols.{symbol_value}
use Rattle.segments.specs.Rules.{refusal, shape_refusal}
use Rattle.segments.specs.declared.fault.Kind.TheVariants.{Normal}
use Rattle.std.proofs.lemmas.Bool.Decides.{nat_tests}
use Rattle.std.specs.Fmt.{digits}
use Rattle.std.specs.Int.RustNames.{count_ones}
use Rattle.std.specs.Prelude.{codes, replicate}
use Rattle.worked_plans.proofs.Machining.{machine_runs}
use Rattle.worked_plans.proofs.Placing.{AreBlocked, AreFree, highest_at, lowest_at, not_placed, nowhere, placed}
use Rattle.worked_plans.proofs.Planning.{bytes_refused, bytes_refused_first, ending, laid_with, link_refused, parts_done, parts_on, purgatory_nowhere, segments_refused}
use Rattle.worked_plans.specs.LinuxKernels.{high_kernel, low_kernel}
use Rattle.worked_plans.specs.Machines.{area, crash_rows, machine, machine_rows, ram_of}
use Rattle.worked_plans.specs.Purgatories.{purgatory_of}
use Rattle.plan_faults.specs.declared.fault.Part.TheVariants as parts
use Rattle.plan_faults.specs.declared.fault.PlanFault.TheVariants as faults
use Rattle.boot_params.specs.declared.fault.ParamsFault.TheVariants as params_faults
use Rattle.crash_headers.specs.declared.fault.CrashFault.TheVariants as crash_faults
use Rattle.purgatory_link.specs.declared.fault.LinkFault.TheVariants as link_faults
use Rattle.segments.specs.declared.fault.SegFault.TheVariants as rules
use Rattle.worked_plans.proofs.refusals.refusals_behind_the_places.Goals as goal

-- ---- five pages: none is left for the purgatory
abbrev five0 : Laid
five0 = begin [] 0 (Some (replicate 23 0x61))

abbrev five_part0 : PlanPart
five_part0 = Image (kernel_rule low_kernel 1025) (0xeb ∷ [])

abbrev five1 : Laid
five1 = laid_with five0 five_part0 0x184000 0x3000

five_free0 : AreFree (ram (Machine (ram_of 0x184 5))) five0.taken 0x184 3
unfolding ram taken_by taking
five_free0 q from to = (grind (arith, nat_tests), grind (arith, nat_tests))

five_place0 : place (ram (Machine (ram_of 0x184 5))) five0.taken (record { part = parts.Kernel; length = 0x3000; end = Least; align = 0x4000; min = 0x18_2000; most = 0xffff_ffff }) ≡ Ok (record { at = 0x184000; size = 0x3000 })
five_place0 = placed (ram (Machine (ram_of 0x184 5))) five0.taken parts.Kernel 0x3000 Least 0x4000 0x18_2000 0xffff_ffff 0x184000 refl (lowest_at (ram (Machine (ram_of 0x184 5))) five0.taken parts.Kernel 0x3000 0x4000 0x18_2000 0xffff_ffff 0x184 3 refl (omega arith) refl (omega arith) five_free0 (omega arith) (λ x a m l first last. omega (arith, a, m, l)))

abbrev five_part1 : PlanPart
five_part1 = Parameters low_kernel (record { start = 0x184000; size = 0x5000; kind = 1 } ∷ [])

abbrev five2 : Laid
five2 = laid_with five1 five_part1 0x187000 0x2000

five_free1 : AreFree (ram (Machine (ram_of 0x184 5))) five1.taken 0x187 2
unfolding ram taken_by taking
five_free1 q from to = (grind (arith, nat_tests), grind (arith, nat_tests))

five_blocked1 : AreBlocked (ram (Machine (ram_of 0x184 5))) five1.taken 0x189 0xffff_ffff
unfolding ram taken_by taking
five_blocked1 q from to = grind (arith, nat_tests)

five_place1 : place (ram (Machine (ram_of 0x184 5))) five1.taken (record { part = parts.Parameters; length = 4120; end = Greatest; align = 4096; min = 0; most = 0xffff_ffff }) ≡ Ok (record { at = 0x187000; size = 0x2000 })
five_place1 = placed (ram (Machine (ram_of 0x184 5))) five1.taken parts.Parameters 4120 Greatest 4096 0 0xffff_ffff 0x187000 refl (highest_at (ram (Machine (ram_of 0x184 5))) five1.taken parts.Parameters 4120 0xffff_ffff 0x187 2 refl (omega arith) five_free1 (omega arith) five_blocked1)

five_laid : place_parts (ram (Machine (ram_of 0x184 5))) five0 (five_part0 ∷ five_part1 ∷ []) ≡ Ok five2
unfolding params_length
five_laid =
    parts_on (ram (Machine (ram_of 0x184 5))) five0 five_part0 (five_part1 ∷ []) 0x184000 0x3000 five_place0
    ∙ parts_on (ram (Machine (ram_of 0x184 5))) five1 five_part1 ([]) 0x187000 0x2000 five_place1
    ∙ parts_done (ram (Machine (ram_of 0x184 5))) five2

five_none : AreBlocked (ram (Machine (ram_of 0x184 5))) five2.taken 0 0x7fff_ffff
unfolding ram taken_by taking
five_none q from to = grind (arith, nat_tests)

five_nowhere : place (ram (Machine (ram_of 0x184 5))) five2.taken (purgatory_rule 0x7fff_ffff (purgatory_of 136)) ≡ Err (faults.NoHole parts.Purgatory)
five_nowhere = not_placed (ram (Machine (ram_of 0x184 5))) five2.taken parts.Purgatory 4096 Greatest 4096 0 0x7fff_ffff refl (nowhere (ram (Machine (ram_of 0x184 5))) five2.taken parts.Purgatory 4096 0x7fff_ffff five_none)

-- ---- notes that lie in the area
abbrev notes0 : Laid
notes0 = begin [] 0 (Some (replicate 23 0x61))

abbrev notes_part0 : PlanPart
notes_part0 = Image (kernel_rule high_kernel 1025) (0xeb ∷ [])

abbrev notes1 : Laid
notes1 = laid_with notes0 notes_part0 0x400000 0x3000

notes_free0 : AreFree (ram (Reserved machine area)) notes0.taken 0x400 3
unfolding ram taken_by taking
notes_free0 q from to = (grind (arith, nat_tests), grind (arith, nat_tests))

notes_lower : (x : ℕ) → x % 0x4000 ≡ 0 → 0x18_2000 ≤ x → x < 0x400000 → is_free (ram (Reserved machine area)) notes0.taken (x / 4096) ≡ true → is_free (ram (Reserved machine area)) notes0.taken ((x + part_size 0x3000 - 1) / 4096) ≡ true → ⊥
unfolding ram taken_by taking
notes_lower x a m l first last = grind (arith, nat_tests)

notes_place0 : place (ram (Reserved machine area)) notes0.taken (record { part = parts.Kernel; length = 0x3000; end = Least; align = 0x4000; min = 0x18_2000; most = 0x3fff_ffff_ffff }) ≡ Ok (record { at = 0x400000; size = 0x3000 })
notes_place0 = placed (ram (Reserved machine area)) notes0.taken parts.Kernel 0x3000 Least 0x4000 0x18_2000 0x3fff_ffff_ffff 0x400000 refl (lowest_at (ram (Reserved machine area)) notes0.taken parts.Kernel 0x3000 0x4000 0x18_2000 0x3fff_ffff_ffff 0x400 3 refl (omega arith) refl (omega arith) notes_free0 (omega arith) (notes_lower))

abbrev notes_part1 : PlanPart
notes_part1 = Headers (highest parts.Headers 344 0x3fff_ffff_ffff) machine (record { start = 0x40_0000; size = 0x400 } ∷ [])

abbrev notes2 : Laid
notes2 = laid_with notes1 notes_part1 0x4ff000 0x1000

notes_free1 : AreFree (ram (Reserved machine area)) notes1.taken 0x4ff 1
unfolding ram taken_by taking
notes_free1 q from to = (grind (arith, nat_tests), grind (arith, nat_tests))

notes_blocked1 : AreBlocked (ram (Reserved machine area)) notes1.taken 0x500 0x3fff_ffff_ffff
unfolding ram taken_by taking
notes_blocked1 q from to = grind (arith, nat_tests)

notes_place1 : place (ram (Reserved machine area)) notes1.taken (record { part = parts.Headers; length = 344; end = Greatest; align = 4096; min = 0; most = 0x3fff_ffff_ffff }) ≡ Ok (record { at = 0x4ff000; size = 0x1000 })
notes_place1 = placed (ram (Reserved machine area)) notes1.taken parts.Headers 344 Greatest 4096 0 0x3fff_ffff_ffff 0x4ff000 refl (highest_at (ram (Reserved machine area)) notes1.taken parts.Headers 344 0x3fff_ffff_ffff 0x4ff 1 refl (omega arith) notes_free1 (omega arith) notes_blocked1)

abbrev notes_part2 : PlanPart
notes_part2 = Parameters high_kernel crash_rows

abbrev notes3 : Laid
notes3 = laid_with notes2 notes_part2 0x4fd000 0x2000

notes_free2 : AreFree (ram (Reserved machine area)) notes2.taken 0x4fd 2
unfolding ram taken_by taking
notes_free2 q from to = (grind (arith, nat_tests), grind (arith, nat_tests))

notes_blocked2 : AreBlocked (ram (Reserved machine area)) notes2.taken 0x4ff 0x3fff_ffff_ffff
unfolding ram taken_by taking
notes_blocked2 q from to = grind (arith, nat_tests)

notes_place2 : place (ram (Reserved machine area)) notes2.taken (record { part = parts.Parameters; length = 4137; end = Greatest; align = 4096; min = 0; most = 0x3fff_ffff_ffff }) ≡ Ok (record { at = 0x4fd000; size = 0x2000 })
notes_place2 = placed (ram (Reserved machine area)) notes2.taken parts.Parameters 4137 Greatest 4096 0 0x3fff_ffff_ffff 0x4fd000 refl (highest_at (ram (Reserved machine area)) notes2.taken parts.Parameters 4137 0x3fff_ffff_ffff 0x4fd 2 refl (omega arith) notes_free2 (omega arith) notes_blocked2)

notes_laid : place_parts (ram (Reserved machine area)) notes0 (notes_part0 ∷ notes_part1 ∷ notes_part2 ∷ []) ≡ Ok notes3
unfolding params_length digits outside without_area
notes_laid =
    parts_on (ram (Reserved machine area)) notes0 notes_part0 (notes_part1 ∷ notes_part2 ∷ []) 0x400000 0x3000 notes_place0
    ∙ parts_on (ram (Reserved machine area)) notes1 notes_part1 (notes_part2 ∷ []) 0x4ff000 0x1000 notes_place1
    ∙ parts_on (ram (Reserved machine area)) notes2 notes_part2 ([]) 0x4fd000 0x2000 notes_place2
    ∙ parts_done (ram (Reserved machine area)) notes3

-- ---- a command that is one byte too long
abbrev word0 : Laid
word0 = begin [] 0 (Some (codes "quiet!"))

abbrev word_part0 : PlanPart
word_part0 = Image (kernel_rule high_kernel 1025) (0xeb ∷ [])

abbrev word1 : Laid
word1 = laid_with word0 word_part0 0x400000 0x3000

word_free0 : AreFree (ram (Reserved machine area)) word0.taken 0x400 3
unfolding ram taken_by taking
word_free0 q from to = (grind (arith, nat_tests), grind (arith, nat_tests))

word_lower : (x : ℕ) → x % 0x4000 ≡ 0 → 0x18_2000 ≤ x → x < 0x400000 → is_free (ram (Reserved machine area)) word0.taken (x / 4096) ≡ true → is_free (ram (Reserved machine area)) word0.taken ((x + part_size 0x3000 - 1) / 4096) ≡ true → ⊥
unfolding ram taken_by taking
word_lower x a m l first last = grind (arith, nat_tests)

word_place0 : place (ram (Reserved machine area)) word0.taken (record { part = parts.Kernel; length = 0x3000; end = Least; align = 0x4000; min = 0x18_2000; most = 0x3fff_ffff_ffff }) ≡ Ok (record { at = 0x400000; size = 0x3000 })
word_place0 = placed (ram (Reserved machine area)) word0.taken parts.Kernel 0x3000 Least 0x4000 0x18_2000 0x3fff_ffff_ffff 0x400000 refl (lowest_at (ram (Reserved machine area)) word0.taken parts.Kernel 0x3000 0x4000 0x18_2000 0x3fff_ffff_ffff 0x400 3 refl (omega arith) refl (omega arith) word_free0 (omega arith) (word_lower))

abbrev word_part1 : PlanPart
word_part1 = Headers (highest parts.Headers 288 0x3fff_ffff_ffff) machine []

abbrev word2 : Laid
word2 = laid_with word1 word_part1 0x4ff000 0x1000

word_free1 : AreFree (ram (Reserved machine area)) word1.taken 0x4ff 1
unfolding ram taken_by taking
word_free1 q from to = (grind (arith, nat_tests), grind (arith, nat_tests))

word_blocked1 : AreBlocked (ram (Reserved machine area)) word1.taken 0x500 0x3fff_ffff_ffff
unfolding ram taken_by taking
word_blocked1 q from to = grind (arith, nat_tests)

word_place1 : place (ram (Reserved machine area)) word1.taken (record { part = parts.Headers; length = 288; end = Greatest; align = 4096; min = 0; most = 0x3fff_ffff_ffff }) ≡ Ok (record { at = 0x4ff000; size = 0x1000 })
word_place1 = placed (ram (Reserved machine area)) word1.taken parts.Headers 288 Greatest 4096 0 0x3fff_ffff_ffff 0x4ff000 refl (highest_at (ram (Reserved machine area)) word1.taken parts.Headers 288 0x3fff_ffff_ffff 0x4ff 1 refl (omega arith) word_free1 (omega arith) word_blocked1)

abbrev word_part2 : PlanPart
word_part2 = Parameters high_kernel crash_rows

abbrev word3 : Laid
word3 = laid_with word2 word_part2 0x4fd000 0x2000

word_free2 : AreFree (ram (Reserved machine area)) word2.taken 0x4fd 2
unfolding ram taken_by taking
word_free2 q from to = (grind (arith, nat_tests), grind (arith, nat_tests))

word_blocked2 : AreBlocked (ram (Reserved machine area)) word2.taken 0x4ff 0x3fff_ffff_ffff
unfolding ram taken_by taking
word_blocked2 q from to = grind (arith, nat_tests)

word_place2 : place (ram (Reserved machine area)) word2.taken (record { part = parts.Parameters; length = 4120; end = Greatest; align = 4096; min = 0; most = 0x3fff_ffff_ffff }) ≡ Ok (record { at = 0x4fd000; size = 0x2000 })
word_place2 = placed (ram (Reserved machine area)) word2.taken parts.Parameters 4120 Greatest 4096 0 0x3fff_ffff_ffff 0x4fd000 refl (highest_at (ram (Reserved machine area)) word2.taken parts.Parameters 4120 0x3fff_ffff_ffff 0x4fd 2 refl (omega arith) word_free2 (omega arith) word_blocked2)

word_laid : place_parts (ram (Reserved machine area)) word0 (word_part0 ∷ word_part1 ∷ word_part2 ∷ []) ≡ Ok word3
unfolding params_length digits outside without_area
word_laid =
    parts_on (ram (Reserved machine area)) word0 word_part0 (word_part1 ∷ word_part2 ∷ []) 0x400000 0x3000 word_place0
    ∙ parts_on (ram (Reserved machine area)) word1 word_part1 (word_part2 ∷ []) 0x4ff000 0x1000 word_place1
    ∙ parts_on (ram (Reserved machine area)) word2 word_part2 ([]) 0x4fd000 0x2000 word_place2
    ∙ parts_done (ram (Reserved machine area)) word3

-- ---- a long command, and a purgatory
abbrev long0 : Laid
long0 = begin [] 0 (Some (replicate 23 0x61))

abbrev long_part0 : PlanPart
long_part0 = Image (kernel_rule low_kernel 1025) (0xeb ∷ [])

abbrev long1 : Laid
long1 = laid_with long0 long_part0 0x184000 0x3000

long_free0 : AreFree (ram (Machine machine)) long0.taken 0x184 3
unfolding ram taken_by taking
long_free0 q from to = (grind (arith, nat_tests), grind (arith, nat_tests))

long_place0 : place (ram (Machine machine)) long0.taken (record { part = parts.Kernel; length = 0x3000; end = Least; align = 0x4000; min = 0x18_2000; most = 0xffff_ffff }) ≡ Ok (record { at = 0x184000; size = 0x3000 })
long_place0 = placed (ram (Machine machine)) long0.taken parts.Kernel 0x3000 Least 0x4000 0x18_2000 0xffff_ffff 0x184000 refl (lowest_at (ram (Machine machine)) long0.taken parts.Kernel 0x3000 0x4000 0x18_2000 0xffff_ffff 0x184 3 refl (omega arith) refl (omega arith) long_free0 (omega arith) (λ x a m l first last. omega (arith, a, m, l)))

abbrev long_part1 : PlanPart
long_part1 = Parameters low_kernel machine_rows

abbrev long2 : Laid
long2 = laid_with long1 long_part1 0x7fe000 0x2000

long_free1 : AreFree (ram (Machine machine)) long1.taken 0x7fe 2
unfolding ram taken_by taking
long_free1 q from to = (grind (arith, nat_tests), grind (arith, nat_tests))

long_blocked1 : AreBlocked (ram (Machine machine)) long1.taken 0x800 0xffff_ffff
unfolding ram taken_by taking
long_blocked1 q from to = grind (arith, nat_tests)

long_place1 : place (ram (Machine machine)) long1.taken (record { part = parts.Parameters; length = 4120; end = Greatest; align = 4096; min = 0; most = 0xffff_ffff }) ≡ Ok (record { at = 0x7fe000; size = 0x2000 })
long_place1 = placed (ram (Machine machine)) long1.taken parts.Parameters 4120 Greatest 4096 0 0xffff_ffff 0x7fe000 refl (highest_at (ram (Machine machine)) long1.taken parts.Parameters 4120 0xffff_ffff 0x7fe 2 refl (omega arith) long_free1 (omega arith) long_blocked1)

long_laid : place_parts (ram (Machine machine)) long0 (long_part0 ∷ long_part1 ∷ []) ≡ Ok long2
unfolding params_length
long_laid =
    parts_on (ram (Machine machine)) long0 long_part0 (long_part1 ∷ []) 0x184000 0x3000 long_place0
    ∙ parts_on (ram (Machine machine)) long1 long_part1 ([]) 0x7fe000 0x2000 long_place1
    ∙ parts_done (ram (Machine machine)) long2

long_free : AreFree (ram (Machine machine)) long2.taken 0x7fd 1
unfolding ram taken_by taking
long_free q from to = (grind (arith, nat_tests), grind (arith, nat_tests))

long_blocked : AreBlocked (ram (Machine machine)) long2.taken 0x7fe 0x7fff_ffff
unfolding ram taken_by taking
long_blocked q from to = grind (arith, nat_tests)

long_purgatory : place (ram (Machine machine)) long2.taken (purgatory_rule 0x7fff_ffff (purgatory_of 128)) ≡ Ok (record { at = 0x7fd000; size = 4096 })
long_purgatory = placed (ram (Machine machine)) long2.taken parts.Purgatory 4096 Greatest 4096 0 0x7fff_ffff 0x7fd000 refl (highest_at (ram (Machine machine)) long2.taken parts.Purgatory 4096 0x7fff_ffff 0x7fd 1 refl (omega arith) long_free (omega arith) long_blocked)

-- ---- a kernel of more than half of the pages
abbrev half0 : Laid
half0 = begin [] 0 None

abbrev half_part0 : PlanPart
half_part0 = Image (kernel_rule low_kernel 1025) (0xeb ∷ [])

abbrev half1 : Laid
half1 = laid_with half0 half_part0 0x184000 0x3000

half_free0 : AreFree (ram (Machine (ram_of 0x184 5))) half0.taken 0x184 3
unfolding ram taken_by taking
half_free0 q from to = (grind (arith, nat_tests), grind (arith, nat_tests))

half_place0 : place (ram (Machine (ram_of 0x184 5))) half0.taken (record { part = parts.Kernel; length = 0x3000; end = Least; align = 0x4000; min = 0x18_2000; most = 0xffff_ffff }) ≡ Ok (record { at = 0x184000; size = 0x3000 })
half_place0 = placed (ram (Machine (ram_of 0x184 5))) half0.taken parts.Kernel 0x3000 Least 0x4000 0x18_2000 0xffff_ffff 0x184000 refl (lowest_at (ram (Machine (ram_of 0x184 5))) half0.taken parts.Kernel 0x3000 0x4000 0x18_2000 0xffff_ffff 0x184 3 refl (omega arith) refl (omega arith) half_free0 (omega arith) (λ x a m l first last. omega (arith, a, m, l)))

abbrev half_part1 : PlanPart
half_part1 = Parameters low_kernel (record { start = 0x184000; size = 0x5000; kind = 1 } ∷ [])

abbrev half2 : Laid
half2 = laid_with half1 half_part1 0x187000 0x2000

half_free1 : AreFree (ram (Machine (ram_of 0x184 5))) half1.taken 0x187 2
unfolding ram taken_by taking
half_free1 q from to = (grind (arith, nat_tests), grind (arith, nat_tests))

half_blocked1 : AreBlocked (ram (Machine (ram_of 0x184 5))) half1.taken 0x189 0xffff_ffff
unfolding ram taken_by taking
half_blocked1 q from to = grind (arith, nat_tests)

half_place1 : place (ram (Machine (ram_of 0x184 5))) half1.taken (record { part = parts.Parameters; length = 4097; end = Greatest; align = 4096; min = 0; most = 0xffff_ffff }) ≡ Ok (record { at = 0x187000; size = 0x2000 })
half_place1 = placed (ram (Machine (ram_of 0x184 5))) half1.taken parts.Parameters 4097 Greatest 4096 0 0xffff_ffff 0x187000 refl (highest_at (ram (Machine (ram_of 0x184 5))) half1.taken parts.Parameters 4097 0xffff_ffff 0x187 2 refl (omega arith) half_free1 (omega arith) half_blocked1)

half_laid : place_parts (ram (Machine (ram_of 0x184 5))) half0 (half_part0 ∷ half_part1 ∷ []) ≡ Ok half2
unfolding params_length
half_laid =
    parts_on (ram (Machine (ram_of 0x184 5))) half0 half_part0 (half_part1 ∷ []) 0x184000 0x3000 half_place0
    ∙ parts_on (ram (Machine (ram_of 0x184 5))) half1 half_part1 ([]) 0x187000 0x2000 half_place1
    ∙ parts_done (ram (Machine (ram_of 0x184 5))) half2

five_runs : ram_runs (ram_of 0x184 5) ≡ record { first = 0x184; count = 5 } ∷ []
five_runs = are_ram_runs (ram_of 0x184 5) (record { first = 0x184; count = 5 } ∷ []) (omega arith, omega arith, omega arith, tt) (λ q. grind (arith, nat_tests))

half_tested : test_segments (Machine (ram_of 0x184 5)) half2.list ≡ Err (faults.Segments rules.HalfOfMemory)
unfolding first_refusal test_segments refusal shape_refusal params params_fault params_text page_text row_text extension with_field zeros
half_tested = ap (λ rs. unless_refused half2.list (refusal rs Normal half2.list)) five_runs

-- ---- a raw kernel at page 0, and a purgatory
abbrev raw0 : Laid
raw0 = begin (record { bytes = codes "abc"; mem = 0; memsz = 0x1000 } ∷ []) 0 None

raw_free : AreFree (ram (Machine machine)) raw0.taken 0x7ff 1
unfolding ram taken_by taking
raw_free q from to = (grind (arith, nat_tests), grind (arith, nat_tests))

raw_blocked : AreBlocked (ram (Machine machine)) raw0.taken 0x800 0x7fff_ffff
unfolding ram taken_by taking
raw_blocked q from to = grind (arith, nat_tests)

raw_purgatory : place (ram (Machine machine)) raw0.taken (purgatory_rule 0x7fff_ffff (purgatory_of 128)) ≡ Ok (record { at = 0x7ff000; size = 4096 })
raw_purgatory = placed (ram (Machine machine)) raw0.taken parts.Purgatory 4096 Greatest 4096 0 0x7fff_ffff 0x7ff000 refl (highest_at (ram (Machine machine)) raw0.taken parts.Purgatory 4096 0x7fff_ffff 0x7ff 1 refl (omega arith) raw_free (omega arith) raw_blocked)

raw_linked : linked_at (purgatory_of 128) (record { at = 0x7f_f000; size = 4096 }) ≡ Err (faults.Link (link_faults.WrongSize 128))
unfolding linked_at linking linked_size link_at end relocate puts_of with_puts starts lay padding put_of entry_of test_place symbol_value symbols_of symbol_place symbol_address symbol_of field with_field
raw_linked = refl

raw_tested : test_segments (Machine machine) raw0.list ≡ Err (faults.Segments (rules.NotRam 0))
unfolding first_refusal test_segments refusal shape_refusal
raw_tested = ap (λ rs. unless_refused raw0.list (refusal rs Normal raw0.list)) machine_runs

pub returns-clause-place_of_the_purgatory : goal.returns-clause-place_of_the_purgatory
unfolding plan plan_as read_kernel some_purgatory linux_kernel kernel_reading with_field zeros tested_header read_header header_fault is_bzimage field count_ones params params_fault read_purgatory object_reading linked_size read_table read_symbols read_relocs end object_header gather read_elf64 object_fault symbols_in relocs_in padding read_class strings_of rela_fault test_symbols symbol_in entry_of name_in
returns-clause-place_of_the_purgatory c = ap (λ r. r >>= ending (Machine (ram_of 0x184 5)) false (Some (purgatory_of 136))) five_laid ∙ purgatory_nowhere (Machine (ram_of 0x184 5)) false (purgatory_of 136) five2 (faults.NoHole parts.Purgatory) five_nowhere

pub returns-clause-headers : goal.returns-clause-headers
unfolding plan plan_as read_kernel some_purgatory linux_kernel kernel_reading with_field zeros tested_header read_header header_fault is_bzimage field count_ones params params_fault outside without_area digits
returns-clause-headers c = ap (λ r. r >>= ending (Reserved machine area) true None) notes_laid ∙ bytes_refused (Reserved machine area) true notes3 (faults.Crash (crash_faults.NotesOutside 0)) refl

pub returns-clause-parameters : goal.returns-clause-parameters
unfolding plan plan_as read_kernel some_purgatory linux_kernel kernel_reading with_field zeros tested_header read_header header_fault is_bzimage field count_ones params params_fault read_purgatory object_reading linked_size read_table read_symbols read_relocs end object_header gather read_elf64 object_fault symbols_in relocs_in padding read_class strings_of rela_fault test_symbols symbol_in entry_of name_in
returns-clause-parameters c = ap (λ r. r >>= ending (Machine machine) false (Some (purgatory_of 128))) long_laid ∙ bytes_refused_first (Machine machine) false (purgatory_of 128) long2 0x7f_d000 4096 (faults.Params (params_faults.CommandTooLong 23 22)) long_purgatory refl

pub returns-clause-parameters_of_a_crash : goal.returns-clause-parameters_of_a_crash
unfolding plan plan_as read_kernel some_purgatory linux_kernel kernel_reading with_field zeros tested_header read_header header_fault is_bzimage field count_ones params params_fault outside without_area digits
returns-clause-parameters_of_a_crash c = ap (λ r. r >>= ending (Reserved machine area) true None) word_laid ∙ bytes_refused (Reserved machine area) true word3 (faults.Params (params_faults.CommandTooLong 23 22)) refl

pub returns-clause-symbols : goal.returns-clause-symbols
unfolding plan plan_as read_kernel some_purgatory place_parts read_purgatory object_reading linked_size read_table read_symbols read_relocs end object_header gather read_elf64 object_fault symbols_in relocs_in padding read_class strings_of rela_fault test_symbols symbol_in entry_of name_in field
returns-clause-symbols c = link_refused (Machine machine) false (purgatory_of 128) raw0 0x7f_f000 4096 (faults.Link (link_faults.WrongSize 128)) raw_purgatory refl raw_linked

pub returns-clause-memory : goal.returns-clause-memory
unfolding plan plan_as read_kernel some_purgatory place_parts
returns-clause-memory c = segments_refused (Machine machine) false raw0 (faults.Segments (rules.NotRam 0)) refl raw_tested

pub returns-clause-half_of_memory : goal.returns-clause-half_of_memory
unfolding plan plan_as read_kernel some_purgatory linux_kernel kernel_reading with_field zeros tested_header read_header header_fault is_bzimage field count_ones params params_fault
returns-clause-half_of_memory c = ap (λ r. r >>= ending (Machine (ram_of 0x184 5)) false None) half_laid ∙ segments_refused (Machine (ram_of 0x184 5)) false half2 (faults.Segments rules.HalfOfMemory) refl half_tested
