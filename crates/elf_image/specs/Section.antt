-- Sections and their headers (ELF gABI, "Section Header": Elf64_Shdr).
use Rattle.std.specs.Prelude.{ℕ, ◌+◌, ◌*◌, ◌/◌, ◌%◌, ◌==◌, ◌&&◌, not, Bool, false, List, [], length, drop, map, position, nat_lt, Option, Some, None, Result, Ok}
use Rattle.std.specs.Option.{option_map}
use Rattle.std.specs.List.{range_with_len}
use Rattle.kx_fields.specs.Fields.{bytes_at}
use Rattle.kx_fields.specs.Formats.{Format, read}
use Rattle.elf_image.specs.declared.section.Section.{Section}
use Rattle.elf_image.specs.declared.section.SectionHeader.{SectionHeader}
use Rattle.elf_image.specs.declared.fault.ElfFault.{ElfFault}
use Rattle.elf_image.specs.declared.fault.ElfFault.TheVariants as faults
use Rattle.elf_image.specs.declared.fault.ElfPart.TheVariants as parts
use Rattle.kx_laws.specs.Results.{◌>>=◌, unless_at}
use Rattle.elf_image.specs.Numbers.{sht_null, sht_nobits}
use Rattle.elf_image.specs.FileHeader.{object_header}
use Rattle.elf_image.specs.Table.{Table}

-- sh_type, sh_flags, sh_offset, sh_size, sh_link, sh_info, sh_addralign and sh_entsize. Nothing is read of sh_name and of
-- sh_addr: a section has its place from the linker here.
abbrev pub section_header : Format SectionHeader
section_header = record {
  layout = λ at. record {
    kind = at 4 4;
    flags = at 8 8;
    offset = at 24 8;
    size = at 32 8;
    link = at 40 4;
    info = at 44 4;
    align = at 48 8;
    entsize = at 56 8;
  };
  numbers = λ h. [];
}

-- SHF_ALLOC (2) is among the flags
abbrev pub is_alloc : ℕ → Bool
is_alloc flags = flags / 2 % 2 == 1

-- what is told of a section
abbrev pub section_of : SectionHeader → Section
section_of h =
    record {
      kind = h.kind;
      alloc = is_alloc h.flags;
      offset = h.offset;
      size = h.size;
      align = h.align;
      target = h.info;
    }

-- it has another type than SHT_NULL and SHT_NOBITS, and its bytes do not lie in a file of n bytes
abbrev pub is_section_cut : ℕ → SectionHeader → Bool
is_section_cut n h =
    not (h.kind == sht_null) && (not (h.kind == sht_nobits) && nat_lt n (h.offset + h.size))

-- the n section headers from this place of the file on
abbrev pub headers_of : ℕ → ℕ → List ℕ → List SectionHeader
headers_of start n file =
    map (λ i. read section_header (bytes_at (start + 64 * i) 64 file)) (range_with_len 0 n)

-- the first section of this type from index k on
abbrev pub first_of : ℕ → ℕ → List SectionHeader → Option ℕ
first_of kind k headers = option_map (λ i. k + i) (position (λ h. h.kind == kind) (drop k headers))

-- the section of this index is of this type
abbrev pub is_of : ℕ → Option SectionHeader → Bool
is_of kind None = false
is_of kind (Some h) = h.kind == kind

-- what is read of a section: nothing, if it is not there
abbrev pub read_in : {B : Type 0} → (SectionHeader → Result (List B) ElfFault)
    → Option SectionHeader → Result (List B) ElfFault
read_in f None = Ok []
read_in f (Some h) = f h

-- where the section header of this index stands in the file
abbrev pub place_of : Table → ℕ → ℕ
place_of t i = t.start + 64 * i

-- the section headers, or the least section whose bytes do not lie in the file
abbrev pub tested_table : ℕ → Table → Result Table ElfFault
tested_table n t = do
  _ ← unless_at (λ i. faults.Truncated (parts.Section i)) (position (is_section_cut n) t.headers)
  Ok t

-- the section headers of an object, or the first fault
unfoldable pub read_table : List ℕ → Result Table ElfFault
read_table file = do
  h ← object_header file
  tested_table (length file)
      (record { start = h.file.shoff; headers = headers_of h.file.shoff h.file.shnum file })
