-- Relocations with addends (ELF gABI, "Relocation": Elf64_Rela).
use Rattle.std.specs.Prelude.{ℕ, ◌+◌, ◌*◌, ◌/◌, ◌%◌, ◌^◌, ◌==◌, not, Bool, List, [], ◌∷◌, length, map, position, nat_lt, if◌then◌else◌, Option, Some, None, Result, Ok}
use Rattle.std.specs.List.{slice_get, range_with_len}
use Rattle.kx_fields.specs.Fields.{bytes_at, signed}
use Rattle.kx_fields.specs.Formats.{Format, read}
use Rattle.elf_image.specs.declared.section.SectionHeader.{SectionHeader}
use Rattle.elf_image.specs.declared.reloc.Reloc.{Reloc}
use Rattle.elf_image.specs.declared.reloc.RelocSection.{RelocSection}
use Rattle.elf_image.specs.declared.reloc.Rela.{Rela}
use Rattle.elf_image.specs.declared.fault.ElfFault.{ElfFault}
use Rattle.elf_image.specs.declared.fault.ElfFault.TheVariants as faults
use Rattle.kx_laws.specs.Results.{◌>>=◌, unless, unless_at}
use Rattle.elf_image.specs.Gathered.{gather}
use Rattle.elf_image.specs.Numbers.{sht_symtab, sht_rela}
use Rattle.elf_image.specs.Table.{Table}
use Rattle.elf_image.specs.Section.{place_of, is_of, read_in}

abbrev pub rela : Format Rela
rela = record {
  layout = λ at. record { offset = at 0 8; info = at 8 8; addend = signed (at 16 8) };
  numbers = λ r. [];
}

-- where entry k of a section of relocations stands in the file
abbrev pub entry_place : RelocSection → ℕ → ℕ
entry_place s k = s.offset + 24 * k

-- entry k. Of its r_info the low 32 bits are the type, and the high 32 the symbol.
abbrev pub reloc_of : RelocSection → ℕ → Rela → Reloc
reloc_of s k r = record {
  target = s.target;
  offset = r.offset;
  kind = r.info % 2 ^ 32;
  symbol = r.info / 2 ^ 32;
  addend = r.addend;
  section = s.section;
  entry = k;
}

unfoldable pub entry_of : List ℕ → RelocSection → ℕ → Reloc
entry_of file s k = reloc_of s k (read rela (bytes_at (entry_place s k) 24 file))

-- the entries of a section
abbrev pub entries_of : List ℕ → RelocSection → List Reloc
entries_of file s = map (entry_of file s) (range_with_len 0 s.count)

-- the symbol of entry k is none of so many
abbrev pub is_stray : List ℕ → ℕ → RelocSection → ℕ → Bool
is_stray file symbols s k = not (nat_lt (entry_of file s k).symbol symbols)

-- a section in which one is, is refused for the first
unfoldable pub test_symbols : List ℕ → ℕ → RelocSection → Result (Unit {0}) ElfFault
test_symbols file symbols s =
    unless_at (λ k. faults.BadIndex (entry_place s k + 8))
    (position (is_stray file symbols s) (range_with_len 0 s.count))

-- the first fault of a section of relocations, whose header stands at this place: its sh_link is a symbol table
-- (SHT_SYMTAB), and its sh_info a section
unfoldable pub rela_fault : Table → ℕ → SectionHeader → Option ElfFault
rela_fault t place h =
    if not (h.entsize == 24) then Some (faults.BadEntrySize (place + 56))
    else if not (is_of sht_symtab (slice_get t.headers h.link))
    then Some (faults.BadIndex (place + 40))
    else if not (nat_lt h.info (length t.headers)) then Some (faults.BadIndex (place + 44))
    else None

-- section i, as one of relocations: it has whole entries alone
abbrev pub reloc_section : ℕ → SectionHeader → RelocSection
reloc_section i h = record { section = i; target = h.info; offset = h.offset; count = h.size / 24 }

-- the same, if it is one: it has the type SHT_RELA; or its first fault
unfoldable pub relocs_in : List ℕ → Table → ℕ → ℕ → SectionHeader
    → Result (List RelocSection) ElfFault
relocs_in file t symbols i h =
    if h.kind == sht_rela
    then (unless (rela_fault t (place_of t i) h) >>= λ _.
    test_symbols file symbols (reloc_section i h) >>= λ _. Ok (reloc_section i h ∷ []))
    else Ok []

abbrev pub relocs_at : List ℕ → Table → ℕ → ℕ → Result (List RelocSection) ElfFault
relocs_at file t symbols i = read_in (relocs_in file t symbols i) (slice_get t.headers i)

-- the sections of relocations of an object that has so many symbols, or the first fault
unfoldable pub read_relocs : List ℕ → Table → ℕ → Result (List RelocSection) ElfFault
read_relocs file t symbols =
    gather (relocs_at file t symbols) (range_with_len 0 (length t.headers))
