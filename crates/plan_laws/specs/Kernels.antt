-- What every kernel finds, whatever its type (this project's own): the laws of the types put together.
use Rattle.std.specs.Prelude.{◌≡◌, ℕ, false, List, Option, None, Some, Ok, true}
use Rattle.kx_fields.specs.Fields.{AreBytes}
use Rattle.kx_pages.specs.declared.image.ImageType.TheVariants as types
use Rattle.memory_map.specs.Maps.{MapValue}
use Rattle.memory_map.specs.Text.{map_reading}
use Rattle.memory_map.specs.declared.row.Row.{Row}
use Rattle.kexec_plan.specs.Command.{command_of}
use Rattle.kexec_plan.specs.Plan.{plan}
use Rattle.kexec_plan.specs.Requests.{Asked, Plan}
use Rattle.plan_laws.specs.Behind.{IsHandedOn}
use Rattle.plan_laws.specs.Executable.{IsElf, StartsElf, StartsRaw}
use Rattle.plan_laws.specs.Linux.{FitsEntry, IsLinux, StartsCrashKernel, StartsLinux, rows_of}
use Rattle.plan_laws.specs.Multiboot.{IsMultiboot, StartsMultiboot}
use Rattle.plan_laws.specs.Places.{IsOne}

-- The kernel of this request finds by this plan what its own protocol promises: a Linux kernel and a Multiboot kernel
-- their parts, a crash kernel its own, an ELF executable and a raw kernel themselves. Behind a purgatory the first
-- three find theirs from the registers that the purgatory has.
pub record KernelFinds (r : Asked) (map : Option MapValue) (p : Plan) : Type 0 where
  pub linux : r.crash ≡ false → IsLinux r → r.purgatory ≡ None
      → StartsLinux r.kernel r.initrd (command_of r.command) (rows_of map) p
  pub linux_behind : (file : List ℕ) → r.crash ≡ false → IsLinux r → r.purgatory ≡ Some file
      → IsHandedOn file p (StartsLinux r.kernel r.initrd (command_of r.command) (rows_of map))
  pub crash : (m : MapValue) → map ≡ Some m → r.crash ≡ true → IsLinux r
      → r.purgatory ≡ None → StartsCrashKernel r m p
  pub crash_behind : (m : MapValue) (file : List ℕ) → map ≡ Some m → r.crash ≡ true → IsLinux r
      → r.purgatory ≡ Some file → IsHandedOn file p (StartsCrashKernel r m)
  pub multiboot : r.crash ≡ false → IsMultiboot r → r.purgatory ≡ None
      → StartsMultiboot r.kernel r.modules (command_of r.command) (rows_of map) p
  pub multiboot_behind : (file : List ℕ) → r.crash ≡ false → IsMultiboot r → AreBytes r.kernel
      → r.purgatory ≡ Some file
      → IsHandedOn file p
      (StartsMultiboot r.kernel r.modules (command_of r.command) (rows_of map))
  pub elf : IsElf r → r.purgatory ≡ None → StartsElf r.kernel p
  pub raw : (at entry : ℕ) → r.image ≡ types.Raw at entry → r.purgatory ≡ None
      → StartsRaw r.kernel at entry p

-- Whatever is planned, its kernel finds it.
abbrev pub EveryKernelFinds : Type 0
EveryKernelFinds =
    (r : Asked) (map : Option MapValue) (p : Plan) → plan r map ≡ Ok p → KernelFinds r map p

-- Each row of a map file fits a struct boot_e820_entry, so that the rows above are told without a premise.
abbrev pub RowsOfFilesFit : Type 0
RowsOfFilesFit =
    (text : List ℕ) (m : MapValue) (r : Row) → map_reading text ≡ Ok m → IsOne r m.rows
    → FitsEntry r
