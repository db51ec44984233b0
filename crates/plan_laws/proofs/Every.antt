-- The laws of the types put together.
use Rattle.std.proofs.Common.{◌∙◌, sym, ap, arith}
use Rattle.kx_pages.proofs.Lists.{Each-slice_get}
use Rattle.memory_map.specs.declared.row.Row.{Row}
use Rattle.memory_map.specs.inner.Rows.{IsListed}
use Rattle.memory_map.proofs.Listed.{rows_listed}
use Rattle.kexec_plan.specs.Plan.{plan}
use Rattle.plan_laws.specs.Kernels.{EveryKernelFinds, RowsOfFilesFit}
use Rattle.plan_laws.specs.Linux.{FitsEntry}
use Rattle.plan_laws.proofs.Bare.{elf_is_loaded, raw_is_loaded}
use Rattle.plan_laws.proofs.HandedOn.{crash_purgatory_hands_on, multiboot_purgatory_hands_on, purgatory_hands_on}
use Rattle.plan_laws.proofs.Modules.{multiboot_finds_its_parts}
use Rattle.plan_laws.proofs.Starting.{crash_kernel_finds_its_parts, linux_finds_its_parts}

pub every_kernel_finds : EveryKernelFinds
every_kernel_finds r map p e = record {
  linux = λ normal form none. linux_finds_its_parts r map p normal form none e;
  linux_behind = λ file normal form some. purgatory_hands_on r map p file normal form some e;
  crash = λ m is crash form none. crash_kernel_finds_its_parts r m p crash form none (ap (plan r) (sym is) ∙ e);
  crash_behind = λ m file is crash form some. crash_purgatory_hands_on r m p file crash form some (ap (plan r) (sym is) ∙ e);
  multiboot = λ normal form none. multiboot_finds_its_parts r map p normal form none e;
  multiboot_behind = λ file normal form bytes some. multiboot_purgatory_hands_on r map p file normal form bytes some e;
  elf = λ form none. elf_is_loaded r map p form none e;
  raw = λ at entry form none. raw_is_loaded r map p at entry form none e;
}

fits : (r : Row) → IsListed r → FitsEntry r
fits r k = let end = k.end in let kind = k.kind in record { start = omega (arith, end); size = omega (arith, end); kind = omega (arith, kind) }

pub rows_of_files_fit : RowsOfFilesFit
rows_of_files_fit text m r e one = fits r (Each-slice_get IsListed m.rows one.0 r (rows_listed text m e) one.1)
