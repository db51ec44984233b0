-- Each part has its place, and the segments pass their rules.
use Rattle.std.proofs.Common.{◌≡◌, List, [], ◌∷◌, Result, Ok, None, false, refl, ap, ◌∙◌}
use Rattle.bzimage.specs.Kernel.{read_header}
use Rattle.bzimage.specs.Signature.{is_bzimage}
use Rattle.elf_image.specs.FileHeader.{exec_fault, exec_header, read_class, read_header as elf_image_read_header}
use Rattle.elf_image.specs.Loads.{exec_reading, load_fault, load_onto, loads_onto, read_loads}
use Rattle.elf_image.specs.declared.fault.ElfFault.{ElfFault}
use Rattle.kexec_plan.specs.Finish.{finish, plain_plan}
use Rattle.kexec_plan.specs.Formats.{shown_format}
use Rattle.kexec_plan.specs.Ground.{Machine, ram}
use Rattle.kexec_plan.specs.Kernels.{elf_kernel, read_kernel}
use Rattle.kexec_plan.specs.Laying.{place_parts}
use Rattle.kexec_plan.specs.Places.{place_some}
use Rattle.kexec_plan.specs.Plan.{begin, plan, plan_as}
use Rattle.kexec_plan.specs.Purgatory.{some_purgatory}
use Rattle.kexec_plan.specs.Rules.{first_refusal, test_segments, unless_refused}
use Rattle.kx_fields.specs.Fields.{field}
use Rattle.kx_laws.specs.Results.{◌>>=◌}
use Rattle.multiboot_image.specs.Header.{find_header, header_of, header_place, unknown_bit}
use Rattle.segments.specs.Rules.{bare_refusal, refusal, shape_refusal}
use Rattle.segments.specs.Values.{SegmentValue}
use Rattle.segments.specs.declared.fault.Kind.TheVariants.{Normal}
use Rattle.std.specs.Prelude.{codes}
use Rattle.worked_plans.proofs.Imaging.{kernel_of, their_image}
use Rattle.worked_plans.proofs.Machining.{machine_runs}
use Rattle.worked_plans.proofs.Planning.{ending, plain_ending}
use Rattle.worked_plans.specs.Executables.{executable_segments}
use Rattle.worked_plans.specs.Machines.{machine}
use Rattle.worked_plans.proofs.plans.kernels_with_a_place.Goals as goal

abbrev raw : List SegmentValue
raw = record { bytes = codes "abc"; mem = 0x2000; memsz = 0x1000 } ∷ []

raw_tested : test_segments (Machine machine) raw ≡ Ok raw
unfolding first_refusal test_segments refusal shape_refusal
raw_tested = ap (λ rs. unless_refused raw (refusal rs Normal raw)) machine_runs

loads_tested : test_segments (Machine machine) executable_segments ≡ Ok executable_segments
unfolding first_refusal test_segments refusal shape_refusal
loads_tested = ap (λ rs. unless_refused executable_segments (refusal rs Normal executable_segments)) machine_runs

pub returns-clause-raw : goal.returns-clause-raw
unfolding plan plan_as read_kernel some_purgatory place_parts place_some finish plain_plan test_segments first_refusal bare_refusal shape_refusal
returns-clause-raw c = refl

pub returns-clause-raw_in_ram : goal.returns-clause-raw_in_ram
unfolding plan plan_as read_kernel some_purgatory place_parts
returns-clause-raw_in_ram c = plain_ending (Machine machine) false (begin raw 0x2004 None) raw refl raw_tested

pub returns-clause-elf : goal.returns-clause-elf
unfolding plan shown_format is_bzimage find_header header_place header_of unknown_bit plan_as read_kernel some_purgatory elf_kernel exec_reading exec_header read_loads exec_fault loads_onto read_class read_header elf_image_read_header load_onto load_fault field place_parts
returns-clause-elf c = ap (λ (r : Result (List SegmentValue) ElfFault). kernel_of r >>= λ kernel. place_parts (ram (Machine machine)) (begin kernel.list kernel.entry None) kernel.parts >>= ending (Machine machine) kernel.above4g None) their_image ∙ plain_ending (Machine machine) false (begin executable_segments 0x10_2004 None) executable_segments refl loads_tested
