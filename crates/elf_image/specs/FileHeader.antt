-- The file header (ELF gABI, chapter 4, "ELF Header": Elf64_Ehdr and Elf32_Ehdr; the values of x86-64 and i386 from
-- their psABIs), and its tests. All numbers are little endian.
use Rattle.std.specs.Prelude.{ℕ, ◌+◌, ◌*◌, ◌==◌, ◌&&◌, ◌||◌, not, Bool, true, false, List, [], ◌∷◌, length, nat_lt, nat_eq, slice_index, if◌then◌else◌, Option, Some, None, Result, Ok, Err}
use Rattle.std.specs.List.{starts_with}
use Rattle.kx_fields.specs.Fields.{bytes_at}
use Rattle.kx_fields.specs.Formats.{Format, read}
use Rattle.elf_headers.specs.declared.file_header.FileHeader.{FileHeader}
use Rattle.elf_headers.specs.FileHeader.{file_header}
use Rattle.elf_headers.specs.Numbers.{et_rel, et_exec, em_386, em_x86_64, pn_xnum}
use Rattle.elf_image.specs.declared.file_header.Header.{Header}
use Rattle.elf_image.specs.declared.fault.ElfFault.{ElfFault}
use Rattle.elf_image.specs.declared.fault.ElfFault.TheVariants as faults
use Rattle.elf_image.specs.declared.fault.ElfPart.TheVariants as parts
use Rattle.kx_laws.specs.Results.{◌>>=◌, unless}

-- 0x7f and "ELF" (ELFMAG)
abbrev pub magic : List ℕ
magic = 127 ∷ 69 ∷ 76 ∷ 70 ∷ []

-- a class that is 1 (ELFCLASS32) or 2 (ELFCLASS64), little endian (ELFDATA2LSB), and the version 1 (EV_CURRENT)
abbrev pub is_known : List ℕ → Bool
is_known bytes =
    ((slice_index bytes 4 == 1) || (slice_index bytes 4 == 2))
    && ((slice_index bytes 5 == 1) && (slice_index bytes 6 == 1))

-- e_ident: whether the file is ELF64, and not ELF32
unfoldable pub read_class : List ℕ → Result Bool ElfFault
read_class bytes =
    if nat_lt (length bytes) 16 || not (starts_with nat_eq bytes magic) then Err faults.NotElf
    else if not (is_known bytes) then Err faults.Class
    else Ok (slice_index bytes 4 == 2)

abbrev pub elf32 : Format FileHeader
elf32 = record {
  numbers = λ h. [];
  layout = λ at. record {
    kind = at 16 2;
    machine = at 18 2;
    version = at 20 4;
    entry = at 24 4;
    phoff = at 28 4;
    shoff = at 32 4;
    flags = at 36 4;
    ehsize = at 40 2;
    phentsize = at 42 2;
    phnum = at 44 2;
    shentsize = at 46 2;
    shnum = at 48 2;
    shstrndx = at 50 2;
  };
}

-- the format of a class (ELF64 or ELF32), and how many bytes it takes
abbrev pub header_format : Bool → Format FileHeader
header_format true = file_header
header_format false = elf32

abbrev pub header_size : Bool → ℕ
header_size wide = if wide then 64 else 52

-- the file header of a file of this class
abbrev pub header_of : List ℕ → Bool → Result Header ElfFault
header_of bytes wide =
    if nat_lt (length bytes) (header_size wide) then Err (faults.Truncated parts.Header)
    else Ok
    (record {
      wide = wide;
      file = read (header_format wide) (bytes_at 0 (header_size wide) bytes);
    })

-- the file header of an ELF file, and that of an ELF64 file
unfoldable pub read_header : List ℕ → Result Header ElfFault
read_header bytes = read_class bytes >>= header_of bytes

abbrev pub elf64_only : List ℕ → Bool → Result Header ElfFault
elf64_only bytes true = header_of bytes true
elf64_only bytes false = Err faults.Class

unfoldable pub read_elf64 : List ℕ → Result Header ElfFault
read_elf64 bytes = read_class bytes >>= elf64_only bytes

-- ---- an executable

-- how many bytes a program header has
abbrev pub entry_size : Bool → ℕ
entry_size wide = if wide then 56 else 32

-- EM_X86_64 or EM_386
abbrev pub machine_of : Bool → ℕ
machine_of wide = if wide then em_x86_64 else em_386

-- the program headers do not lie in a file of n bytes
abbrev pub is_table_cut : ℕ → Header → Bool
is_table_cut n h = nat_lt n (h.file.phoff + entry_size h.wide * h.file.phnum)

-- the first fault of the header of an executable of n bytes. A number of 0xffff program headers (PN_XNUM)
-- stands for another.
unfoldable pub exec_fault : ℕ → Header → Option ElfFault
exec_fault n h =
    if not (h.file.machine == machine_of h.wide) then Some faults.Machine
    else if not (h.file.kind == et_exec) then Some faults.Kind
    else if h.file.phnum == pn_xnum then Some (faults.BadIndex (if h.wide then 56 else 44))
    else if not (h.file.phnum == 0) && not (h.file.phentsize == entry_size h.wide)
    then Some (faults.BadEntrySize (if h.wide then 54 else 42))
    else if is_table_cut n h then Some (faults.Truncated parts.ProgramTable)
    else None

-- the header of an executable, tested
unfoldable pub exec_header : List ℕ → Result Header ElfFault
exec_header bytes = do
  h ← read_header bytes
  _ ← unless (exec_fault (length bytes) h)
  Ok h

-- ---- a relocatable object

-- the first fault of the header of an object of n bytes, for EM_X86_64: its section headers have 64 bytes
-- and lie in the file
unfoldable pub object_fault : ℕ → Header → Option ElfFault
object_fault n h =
    if not (h.file.machine == em_x86_64) then Some faults.Machine
    else if not (h.file.kind == et_rel) then Some faults.Kind
    else if not (h.file.shnum == 0) && not (h.file.shentsize == 64)
    then Some (faults.BadEntrySize 58)
    else if nat_lt n (h.file.shoff + 64 * h.file.shnum)
    then Some (faults.Truncated parts.SectionTable)
    else None

-- the header of an object, tested
unfoldable pub object_header : List ℕ → Result Header ElfFault
object_header bytes = do
  h ← read_elf64 bytes
  _ ← unless (object_fault (length bytes) h)
  Ok h
