-- Program headers (ELF gABI, chapter 5, "Program Header": Elf64_Phdr and Elf32_Phdr), as far as a loader reads them.
use Rattle.std.specs.Prelude.{ℕ, ◌+◌, ◌*◌, ◌==◌, Bool, true, false, List, [], if◌then◌else◌, Option, Some, None}
use Rattle.std.specs.List.{filter_map, range_with_len}
use Rattle.kx_fields.specs.Fields.{bytes_at}
use Rattle.kx_fields.specs.Formats.{Format, read}
use Rattle.elf_image.specs.declared.load.Load.{Load}
use Rattle.elf_headers.specs.declared.program_header.ProgramHeader.{ProgramHeader}
use Rattle.elf_headers.specs.ProgramHeader.{program_header}
use Rattle.elf_headers.specs.Numbers.{pt_load}
use Rattle.elf_image.specs.declared.file_header.Header.{Header}
use Rattle.elf_image.specs.FileHeader.{entry_size}

abbrev pub elf32 : Format ProgramHeader
elf32 = record {
  numbers = λ h. [];
  layout =
      λ at. record {
        kind = at 0 4;
        flags = at 24 4;
        offset = at 4 4;
        vaddr = at 8 4;
        paddr = at 12 4;
        filesz = at 16 4;
        memsz = at 20 4;
        align = at 28 4;
      };
}

-- the format of a class
abbrev pub row_format : Bool → Format ProgramHeader
row_format true = program_header
row_format false = elf32

-- the load that a program header is: none where its type is another than PT_LOAD
abbrev pub load_of : ProgramHeader → Option Load
load_of p =
    if p.kind == pt_load
    then Some (record { offset = p.offset; filesz = p.filesz; paddr = p.paddr; memsz = p.memsz })
    else None

-- the program header number k
abbrev pub header_at : Header → List ℕ → ℕ → ProgramHeader
header_at h bytes k =
    read (row_format h.wide)
    (bytes_at (h.file.phoff + entry_size h.wide * k) (entry_size h.wide) bytes)

abbrev pub load_at : Header → List ℕ → ℕ → Option Load
load_at h bytes k = load_of (header_at h bytes k)

-- the PT_LOADs, in the file's order
abbrev pub loads_of : Header → List ℕ → List Load
loads_of h bytes = filter_map (load_at h bytes) (range_with_len 0 h.file.phnum)
