-- The image of the executable of the examples: its runs of pages are found by which pages its loads meet.
use Rattle.std.proofs.Common.{◌≡◌, ℕ, ◌^◌, List, [], ◌∷◌, Result, Ok, Err, cond, false, ap, ◌∙◌, arith}
use Rattle.std.specs.Prelude.{map, nat_lt}
use Rattle.std.proofs.lemmas.Bool.Decides.{nat_tests}
use Rattle.kx_laws.specs.Results.{◌>>=◌}
use Rattle.kx_pages.specs.Spans.{Run, in_spans, passing}
use Rattle.segments.specs.Values.{SegmentValue}
use Rattle.elf_image.specs.declared.load.Load.{Load}
use Rattle.elf_image.specs.Image.{image, is_met, runs, segment_of, segments_of, up_to_last}
use Rattle.elf_image.specs.declared.fault.ElfFault.{ElfFault}
use Rattle.elf_image.specs.declared.fault.ElfFault.TheVariants as elf
use Rattle.plan_faults.specs.Faults.{told_by, of_elf}
use Rattle.kexec_plan.specs.Kernels.{Kernel}
use Rattle.plan_faults.specs.declared.fault.PlanFault.{PlanFault}
use Rattle.worked_plans.specs.Executables.{executable, executable_segments}
use Rattle.worked_plans.proofs.Running.{are_runs, count_is}

abbrev pub loads : List Load
loads =
    record { offset = 176; filesz = 3; paddr = 0x10_0000; memsz = 3 }
    ∷ record { offset = 179; filesz = 2; paddr = 0x10_2004; memsz = 12 } ∷ []

abbrev spans : List Run
spans = record { first = 0x100; count = 1 } ∷ record { first = 0x102; count = 1 } ∷ []

spans_have : (q : ℕ) → in_spans spans q ≡ is_met loads q
spans_have q = grind (arith, nat_tests)

few : passing (is_met loads) (2 ^ 34) ≡ 2
few = count_is (is_met loads) spans (omega arith, omega arith, omega arith, (omega arith, omega arith, omega arith, tt)) spans_have

their_runs : runs (is_met loads) 0 (2 ^ 34) ≡ spans
their_runs = are_runs (is_met loads) spans (omega arith, omega arith, omega arith, (omega arith, omega arith, omega arith, tt)) spans_have

pub their_image : image executable loads ≡ Ok executable_segments
unfolding image up_to_last
their_image =
    ap (λ n. cond (nat_lt 65536 n) (Err (elf.TooLarge n)) (Ok (segments_of executable loads))) few
    ∙ ap (λ rs. Ok (map (segment_of executable loads) rs)) their_runs

abbrev pub kernel_of : Result (List SegmentValue) ElfFault → Result Kernel PlanFault
kernel_of r =
    told_by of_elf r
    >>= λ list. Ok (record { list = list; entry = 0x10_2004; parts = []; above4g = false })
