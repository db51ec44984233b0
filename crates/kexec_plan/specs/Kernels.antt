-- What a kernel's file gives a plan: segments whose place the file gives, and parts that need one (this project's own).
use Rattle.std.specs.Prelude.{ℕ, ◌-◌, ◌^◌, ◌++◌, Bool, false, List, [], ◌∷◌, length, drop, map, min, Option, Some, None, if◌then◌else◌, Result, Ok}
use Rattle.kx_laws.specs.Results.{◌>>=◌, unless}
use Rattle.segments.specs.Values.{SegmentValue}
use Rattle.elf_image.specs.declared.fault.ElfFault.TheVariants as elf
use Rattle.elf_image.specs.Loads.{exec_reading}
use Rattle.elf_image.specs.Image.{image}
use Rattle.memory_map.specs.Maps.{core_ranges}
use Rattle.bzimage.specs.Kernel as bzimage
use Rattle.crash_headers.specs.declared.note.Note.{Note}
use Rattle.crash_headers.specs.Headers.{length_for}
use Rattle.multiboot_image.specs.Header.{find_header}
use Rattle.multiboot_image.specs.Parts as multiboot
use Rattle.plan_faults.specs.declared.fault.PlanFault.{PlanFault}
use Rattle.plan_faults.specs.declared.fault.PlanFault.TheVariants as faults
use Rattle.kexec_plan.specs.declared.format.Format.{Format}
use Rattle.kexec_plan.specs.declared.format.Format.TheVariants as formats
use Rattle.kexec_plan.specs.Modules.{AskedModule}
use Rattle.plan_faults.specs.Faults.{told_by, of_elf, of_bzimage, of_multiboot}
use Rattle.kexec_plan.specs.Ground.{Ground, Unknown, Machine, Reserved, rows}
use Rattle.kexec_plan.specs.Laying.{PlanPart, Image, Initrd, Headers, Parameters, Module, Information}
use Rattle.kexec_plan.specs.Parts.{whole_pages}
use Rattle.kexec_plan.specs.Table.{kernel_rule, initrd_rule, headers_rule}

-- the segments whose place the file gives, the address that the kernel is entered at, the parts that need a place, and
-- whether they may lie above 4 GiB
pub record Kernel : Type 0 where
  pub list : List SegmentValue
  pub entry : ℕ
  pub parts : List PlanPart
  pub above4g : Bool

-- a raw kernel: its bytes at the address, and whole pages of memory
abbrev pub raw_kernel : ℕ → ℕ → List ℕ → Kernel
raw_kernel at entry bytes = record {
  list = record { bytes = bytes; mem = at; memsz = whole_pages (length bytes) } ∷ [];
  entry = entry;
  parts = [];
  above4g = false;
}

-- an ELF executable, which must be ELF64
unfoldable pub elf_kernel : List ℕ → Result Kernel PlanFault
elf_kernel file = do
  exec ← told_by of_elf (exec_reading file)
  _ ← unless (if exec.wide then None else Some (faults.Elf elf.Class))
  list ← told_by of_elf (image file exec.loads)
  Ok (record { list = list; entry = exec.entry; parts = []; above4g = false })

-- the initrd of a bzImage, if there is one
abbrev pub initrd_part : bzimage.Kernel → Option (List ℕ) → List PlanPart
initrd_part k None = []
initrd_part k (Some initrd) = Initrd (initrd_rule k initrd) initrd ∷ []

-- the crash headers, where they are needed, whose length is a number of 64 bits
abbrev pub headers_part : Ground → bzimage.Kernel → List Note → List PlanPart
headers_part Unknown k notes = []
headers_part (Machine map) k notes = []
headers_part (Reserved map area) k notes =
    Headers (headers_rule k (min (2 ^ 64 - 1) (length_for (length notes) (core_ranges map))))
    map notes ∷ []

-- the parts of a bzImage, whose file begins with the real-mode part
abbrev pub linux_parts : Ground → bzimage.Kernel → List ℕ → Option (List ℕ) → List Note
    → List PlanPart
linux_parts g k file initrd notes =
    Image (kernel_rule k (length file)) (drop k.start file)
    ∷ initrd_part k initrd ++ headers_part g k notes ++ Parameters k (rows g) ∷ []

-- a bzImage; its address gives the entry
unfoldable pub linux_kernel : Ground → List ℕ → Option (List ℕ) → List Note
    → Result Kernel PlanFault
linux_kernel g file initrd notes = do
  k ← told_by of_bzimage (bzimage.kernel_reading file)
  Ok (record {
    list = [];
    entry = 0;
    parts = linux_parts g k file initrd notes;
    above4g = k.above4g;
  })

-- a Multiboot kernel, with its modules and its information
unfoldable pub multiboot_kernel : Ground → List ℕ → List AskedModule → Result Kernel PlanFault
multiboot_kernel g file modules = do
  header ← told_by of_multiboot (find_header file)
  loaded ← told_by of_multiboot (multiboot.parts header file)
  Ok (record {
    list = loaded.list;
    entry = loaded.entry;
    parts = map Module modules ++ Information (rows g) ∷ [];
    above4g = false;
  })

-- the kernel of this form
unfoldable pub read_kernel : Ground → Format → List ℕ → Option (List ℕ) → List AskedModule
    → List Note → Result Kernel PlanFault
read_kernel g (formats.Raw at entry) file initrd modules notes = Ok (raw_kernel at entry file)
read_kernel g formats.Elf file initrd modules notes = elf_kernel file
read_kernel g formats.Bzimage file initrd modules notes = linux_kernel g file initrd notes
read_kernel g formats.Multiboot file initrd modules notes = multiboot_kernel g file modules
