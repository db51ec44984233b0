-- What the faults of lower calls are here: want of memory stays want of memory (this project's own).
use Rattle.std.specs.Prelude.{Result, Ok, Err}
use Rattle.elf_image.specs.declared.fault.ElfFault.{ElfFault}
use Rattle.elf_image.specs.declared.fault.ElfFault.TheVariants as elf
use Rattle.bzimage.specs.declared.fault.BzFault.{BzFault}
use Rattle.bzimage.specs.declared.fault.BzFault.TheVariants as bz
use Rattle.boot_params.specs.declared.fault.ParamsFault.{ParamsFault}
use Rattle.boot_params.specs.declared.fault.ParamsFault.TheVariants as params
use Rattle.multiboot_image.specs.declared.fault.MbFault.{MbFault}
use Rattle.multiboot_image.specs.declared.fault.MbFault.TheVariants as multiboot
use Rattle.crash_headers.specs.declared.fault.CrashFault.{CrashFault}
use Rattle.crash_headers.specs.declared.fault.CrashFault.TheVariants as crash
use Rattle.purgatory_link.specs.declared.fault.LinkFault.{LinkFault}
use Rattle.purgatory_link.specs.declared.fault.LinkFault.TheVariants as link
use Rattle.plan_faults.specs.declared.fault.PlanFault.{PlanFault}
use Rattle.plan_faults.specs.declared.fault.PlanFault.TheVariants as faults

-- what a lower call answers, its faults seen from here
abbrev pub told_by : {A E F : Type 0} → (E → F) → Result A E → Result A F
told_by of (Ok x) = Ok x
told_by of (Err e) = Err (of e)

abbrev pub of_elf : ElfFault → PlanFault
of_elf elf.Memory = faults.Memory
of_elf e = faults.Elf e

abbrev pub of_object : ElfFault → PlanFault
of_object elf.Memory = faults.Memory
of_object e = faults.Object e

abbrev pub of_bzimage : BzFault → PlanFault
of_bzimage bz.Memory = faults.Memory
of_bzimage e = faults.Bzimage e

abbrev pub of_params : ParamsFault → PlanFault
of_params params.Memory = faults.Memory
of_params e = faults.Params e

abbrev pub of_link : LinkFault → PlanFault
of_link link.Memory = faults.Memory
of_link e = faults.Link e

abbrev pub of_multiboot : MbFault → PlanFault
of_multiboot multiboot.Memory = faults.Memory
of_multiboot e = faults.Multiboot e

abbrev pub of_crash : CrashFault → PlanFault
of_crash crash.Memory = faults.Memory
of_crash e = faults.Crash e
