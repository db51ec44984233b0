-- The form of a kernel's file, and what a kernel of this form takes (this project's own).
use Rattle.std.specs.Prelude.{ℕ, Bool, true, false, ◌&&◌, not, List, [], ◌∷◌, Option, Some, None, is_some, nat_eq, if◌then◌else◌, Result, Ok, Err}
use Rattle.std.specs.List.{starts_with}
use Rattle.bzimage.specs.Signature as signature
use Rattle.elf_image.specs.FileHeader.{magic}
use Rattle.multiboot_image.specs.declared.header.Header.{Header}
use Rattle.multiboot_image.specs.declared.fault.MbFault.{MbFault}
use Rattle.multiboot_image.specs.declared.fault.MbFault.TheVariants as multiboot
use Rattle.multiboot_image.specs.Header.{find_header}
use Rattle.memory_map.specs.Maps.{MapValue, reserved_area}
use Rattle.kx_pages.specs.Spans.{Run}
use Rattle.kexec_plan.specs.Ground.{Ground, Unknown, Machine, Reserved}
use Rattle.kx_pages.specs.declared.image.ImageType.{ImageType}
use Rattle.kx_pages.specs.declared.image.ImageType.TheVariants as types
use Rattle.plan_faults.specs.declared.fault.Part.{Part}
use Rattle.plan_faults.specs.declared.fault.Part.TheVariants as parts
use Rattle.plan_faults.specs.declared.fault.PlanFault.{PlanFault}
use Rattle.plan_faults.specs.declared.fault.PlanFault.TheVariants as faults
use Rattle.kexec_plan.specs.declared.format.Format.{Format}
use Rattle.kexec_plan.specs.declared.format.Format.TheVariants.{Raw, Elf, Bzimage, Multiboot}
use Rattle.kexec_plan.specs.Modules.{AskedModule}
use Rattle.kexec_plan.specs.Requests.{Asked}

-- the file has another thing than no Multiboot header
abbrev pub has_header : Result Header MbFault → Bool
has_header (Err multiboot.NoHeader) = false
has_header (Ok h) = true
has_header (Err e) = true

-- the form that a file shows: a bzImage, a Multiboot kernel, or an ELF file
unfoldable pub shown_format : List ℕ → Result Format PlanFault
shown_format file =
    if signature.is_bzimage file then Ok Bzimage
    else if has_header (find_header file) then Ok Multiboot
    else if starts_with nat_eq file magic then Ok Elf
    else Err faults.UnknownImage

-- the form of a file of the given type
abbrev pub given_format : List ℕ → ImageType → Result Format PlanFault
given_format file (types.Raw at entry) = Ok (Raw at entry)
given_format file types.Elf = Ok Elf
given_format file types.Bzimage = Ok Bzimage
given_format file types.Multiboot = Ok Multiboot
given_format file types.Auto = shown_format file

abbrev pub format_of : Asked → Result Format PlanFault
format_of r = given_format r.kernel r.image

-- an initrd is for a bzImage, modules are for a Multiboot kernel, a command is for both
abbrev pub is_bzimage : Format → Bool
is_bzimage (Raw at entry) = false
is_bzimage Elf = false
is_bzimage Bzimage = true
is_bzimage Multiboot = false

abbrev pub is_multiboot : Format → Bool
is_multiboot (Raw at entry) = false
is_multiboot Elf = false
is_multiboot Bzimage = false
is_multiboot Multiboot = true

abbrev pub has_some : List AskedModule → Bool
has_some [] = false
has_some (m ∷ ms) = true

-- the first part that is given and that a kernel of this form has no use for
abbrev pub unused_part : Asked → Format → Option Part
unused_part r format =
    if is_some r.initrd && not (is_bzimage format) then Some parts.Initrd
    else if has_some r.modules && not (is_multiboot format) then Some parts.Module
    else if is_some r.command && (not (is_bzimage format) && not (is_multiboot format))
    then Some parts.Command
    else None

-- the memory that a kernel is loaded into: a crash kernel is a bzImage, in the reserved area of the memory map
abbrev pub open_ground : Option MapValue → Ground
open_ground None = Unknown
open_ground (Some map) = Machine map

abbrev pub reserved_ground : MapValue → Option Run → Result Ground PlanFault
reserved_ground map None = Err faults.NoReserved
reserved_ground map (Some area) = Ok (Reserved map area)

abbrev pub crash_ground : Option MapValue → Result Ground PlanFault
crash_ground None = Err faults.NoReserved
crash_ground (Some map) = reserved_ground map (reserved_area map)

abbrev pub ground_for : Asked → Option MapValue → Format → Result Ground PlanFault
ground_for r map format =
    if not r.crash then Ok (open_ground map)
    else if not (is_bzimage format) then Err faults.CrashNeedsBzimage
    else crash_ground map
