-- What depends on the form of a kernel's file, by the type that gives the form (this project's own).
use Rattle.std.specs.Prelude.{ℕ, Bool, List, [], ◌∷◌, Option, Result, Ok}
use Rattle.kx_laws.specs.Results.{◌>>=◌}
use Rattle.kx_pages.specs.declared.image.ImageType.{ImageType}
use Rattle.kx_pages.specs.declared.image.ImageType.TheVariants as types
use Rattle.memory_map.specs.Maps.{MapValue}
use Rattle.plan_faults.specs.declared.fault.Part.{Part}
use Rattle.plan_faults.specs.declared.fault.PlanFault.{PlanFault}
use Rattle.kexec_plan.specs.Formats.{given_format, ground_for, is_bzimage, is_multiboot, unused_part}
use Rattle.kexec_plan.specs.Ground.{Ground}
use Rattle.kexec_plan.specs.Requests.{Asked}
use Rattle.kexec_plan.specs.Kernels.{Kernel, read_kernel}
use Rattle.kexec_plan.specs.Modules.{AskedModule}
use Rattle.crash_headers.specs.declared.note.Note.{Note}

-- the types that give a form: raw, ELF, bzImage, Multiboot
abbrev pub all_types : List ImageType
all_types = types.Raw 0x1000 0x1004 ∷ types.Elf ∷ types.Bzimage ∷ types.Multiboot ∷ []

-- the form is that of a bzImage, or of a Multiboot kernel
abbrev pub bzimage_in : ImageType → Result Bool PlanFault
bzimage_in image = do
  format ← given_format [] image
  Ok (is_bzimage format)

abbrev pub multiboot_in : ImageType → Result Bool PlanFault
multiboot_in image = do
  format ← given_format [] image
  Ok (is_multiboot format)

-- the first part that a kernel of this type has no use for
abbrev pub unused_in : Asked → ImageType → Result (Option Part) PlanFault
unused_in r image = do
  format ← given_format [] image
  Ok (unused_part r format)

-- what is known for a kernel of this type
abbrev pub ground_in : Asked → Option MapValue → ImageType → Result Ground PlanFault
ground_in r map image = do
  format ← given_format [] image
  ground_for r map format

-- the kernel of this type
abbrev pub kernel_in : Ground → ImageType → List ℕ → Option (List ℕ) → List AskedModule → List Note
    → Result Kernel PlanFault
kernel_in g image file initrd modules notes = do
  format ← given_format file image
  read_kernel g format file initrd modules notes
