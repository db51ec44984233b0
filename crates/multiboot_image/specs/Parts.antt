-- What a Multiboot kernel is loaded as (Multiboot Specification 0.6.96, sections 3.1.3 and 3.2): by the addresses in its
-- header, or as an ELF32 executable.
use Rattle.std.specs.Prelude.{ℕ, ◌+◌, ◌-◌, ◌*◌, ◌/◌, ◌%◌, ◌^◌, ◌++◌, ◌==◌, ◌&&◌, ◌||◌, not, Bool, List, [], ◌∷◌, length, take, drop, replicate, nat_lt, if◌then◌else◌, Option, Some, None, Result, Ok, Err}
use Rattle.kx_pages.specs.Limits.{segment_page_limit}
use Rattle.kx_pages.specs.Ranges.{count_met}
use Rattle.segments.specs.Values.{SegmentValue}
use Rattle.elf_image.specs.Loads.{Executable, exec_reading}
use Rattle.elf_image.specs.Image.{image}
use Rattle.elf_image.specs.declared.fault.ElfFault.{ElfFault}
use Rattle.elf_image.specs.declared.fault.ElfFault.TheVariants as elf
use Rattle.multiboot_image.specs.declared.header.Header.{Header}
use Rattle.multiboot_image.specs.declared.header.Kludge.{Kludge}
use Rattle.multiboot_image.specs.declared.parts.Site.{Site}
use Rattle.multiboot_image.specs.declared.fault.MbFault.{MbFault}
use Rattle.multiboot_image.specs.declared.fault.MbFault.TheVariants as faults

-- the segments, and the address that the kernel is entered at
pub record Loaded : Type 0 where
  pub list : List SegmentValue
  pub entry : ℕ

-- where the loaded bytes begin in the file: as far before the header as load_addr is before header_addr
abbrev pub place : Site → ℕ
place s = s.at + s.kludge.load_addr - s.kludge.header_addr

-- how many bytes are loaded: up to load_end_addr, or to the end of the file
abbrev pub loaded_length : Site → ℕ
loaded_length s =
    if s.kludge.load_end_addr == 0 then s.total - place s
    else s.kludge.load_end_addr - s.kludge.load_addr

-- the address behind the loaded bytes
abbrev pub load_stop : Site → ℕ
load_stop s = s.kludge.load_addr + loaded_length s

-- the address behind the memory
abbrev pub memory_stop : Site → ℕ
memory_stop s = if s.kludge.bss_end_addr == 0 then load_stop s else s.kludge.bss_end_addr

-- the addresses do not fit the file or one another
abbrev pub is_bad : Site → Bool
is_bad s =
    nat_lt s.kludge.header_addr s.kludge.load_addr
    || (nat_lt (s.at + s.kludge.load_addr) s.kludge.header_addr
    || ((not (s.kludge.load_end_addr == 0) && nat_lt s.kludge.load_end_addr s.kludge.load_addr)
    || (nat_lt s.total (place s + loaded_length s)
    || (nat_lt (2 ^ 32) (memory_stop s)
    || (not (s.kludge.bss_end_addr == 0) && nat_lt s.kludge.bss_end_addr (load_stop s))))))

-- how many pages the memory meets
abbrev pub page_count : Site → ℕ
page_count s = count_met s.kludge.load_addr (memory_stop s)

-- the segment of these pages: zeros up to load_addr, then the loaded bytes
abbrev pub segment : List ℕ → Site → SegmentValue
segment file s = record {
  bytes = replicate (s.kludge.load_addr % 4096) 0 ++ take (loaded_length s) (drop (place s) file);
  mem = 4096 * (s.kludge.load_addr / 4096);
  memsz = 4096 * page_count s;
}

-- the segments: none where no page is met
abbrev pub segments : List ℕ → Site → List SegmentValue
segments file s = if page_count s == 0 then [] else segment file s ∷ []

-- by the addresses in the header
unfoldable pub kludge_parts : List ℕ → Site → Result Loaded MbFault
kludge_parts file s =
    if is_bad s then Err faults.BadKludge
    else if nat_lt segment_page_limit (page_count s) then Err (faults.TooLarge (page_count s))
    else Ok (record { list = segments file s; entry = s.kludge.entry_addr })

-- a fault of the ELF file
abbrev pub of_elf : ElfFault → MbFault
of_elf elf.Memory = faults.Memory
of_elf e = faults.Elf e

abbrev pub image_parts : ℕ → Result (List SegmentValue) ElfFault → Result Loaded MbFault
image_parts entry (Ok list) = Ok (record { list = list; entry = entry })
image_parts entry (Err e) = Err (of_elf e)

abbrev pub exec_parts : List ℕ → Result Executable ElfFault → Result Loaded MbFault
exec_parts file (Ok x) =
    if x.wide then Err (faults.Elf elf.Class)
    else image_parts x.entry (image file x.loads)
exec_parts file (Err e) = Err (of_elf e)

-- as an ELF32 executable
unfoldable pub elf_parts : List ℕ → Result Loaded MbFault
elf_parts file = exec_parts file (exec_reading file)

abbrev pub site : List ℕ → ℕ → Kludge → Site
site file at k = record { kludge = k; at = at; total = length file }

abbrev pub parts_by : List ℕ → ℕ → Option Kludge → Result Loaded MbFault
parts_by file at (Some k) = kludge_parts file (site file at k)
parts_by file at None = elf_parts file

-- what a file with this header is loaded as
abbrev pub parts : Header → List ℕ → Result Loaded MbFault
parts h file = parts_by file h.at h.kludge
