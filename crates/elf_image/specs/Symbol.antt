-- Symbols and their names (ELF gABI, "Symbol Table": Elf64_Sym; "String Table").
use Rattle.std.specs.Prelude.{ℕ, ◌+◌, ◌*◌, ◌/◌, ◌==◌, ◌||◌, not, Bool, List, [], length, take, drop, position, nat_lt, if◌then◌else◌, Option, Some, None, Result, Ok, Err}
use Rattle.std.specs.Option.{option_map}
use Rattle.std.specs.List.{slice_get, range_with_len}
use Rattle.kx_fields.specs.Fields.{bytes_at}
use Rattle.kx_fields.specs.Formats.{Format, read}
use Rattle.elf_image.specs.declared.section.SectionHeader.{SectionHeader}
use Rattle.elf_image.specs.declared.symbol.Symbol.{Symbol}
use Rattle.elf_image.specs.declared.fault.ElfFault.{ElfFault}
use Rattle.elf_image.specs.declared.fault.ElfFault.TheVariants as faults
use Rattle.kx_laws.specs.Results.{◌>>=◌, unless_at}
use Rattle.elf_image.specs.Gathered.{each}
use Rattle.elf_image.specs.Numbers.{sht_symtab, sht_strtab, shn_abs, shn_common}
use Rattle.elf_image.specs.Sym.{Sym}
use Rattle.elf_image.specs.Table.{Table}
use Rattle.elf_image.specs.Section.{place_of, first_of, read_in}

abbrev pub symbol_entry : Format Symbol
symbol_entry = record {
  layout = λ at. record { name = at 0 4; section = at 6 2; value = at 8 8; size = at 16 8 };
  numbers = λ s. [];
}

-- the bytes from this place of a string table up to the next NUL: none where there is no NUL
abbrev pub up_to_nul : List ℕ → Option (List ℕ)
up_to_nul bytes = option_map (λ n. take n bytes) (position (λ b. b == 0) bytes)

unfoldable pub name_in : List ℕ → ℕ → Option (List ℕ)
name_in strings start = up_to_nul (drop start strings)

-- st_shndx is the index of one of so many sections, SHN_ABS or SHN_COMMON
abbrev pub is_index : ℕ → ℕ → Bool
is_index sections index = nat_lt index sections || ((index == shn_abs) || (index == shn_common))

-- symbol k, which stands at this place of the file
abbrev pub symbol_of : ℕ → ℕ → ℕ → Symbol → Option (List ℕ) → Result Sym ElfFault
symbol_of sections at k s None = Err (faults.BadString k)
symbol_of sections at k s (Some name) =
    if is_index sections s.section
    then Ok (record { name = name; section = s.section; value = s.value; size = s.size })
    else Err (faults.BadIndex (at + 6))

abbrev pub named_symbol : List ℕ → ℕ → ℕ → ℕ → Symbol → Result Sym ElfFault
named_symbol strings sections at k s = symbol_of sections at k s (name_in strings s.name)

unfoldable pub symbol_in : List ℕ → List ℕ → ℕ → ℕ → ℕ → Result Sym ElfFault
symbol_in file strings sections at k =
    named_symbol strings sections at k (read symbol_entry (bytes_at at 24 file))

-- the whole entries of a symbol table
abbrev pub entries_in : List ℕ → ℕ → SectionHeader → List ℕ → Result (List Sym) ElfFault
entries_in file sections h strings =
    each (λ k. symbol_in file strings sections (h.offset + 24 * k) k)
    (range_with_len 0 (h.size / 24))

-- the bytes of a string table (SHT_STRTAB), which the section header at this place names by its sh_link
abbrev pub strings_in : List ℕ → ℕ → Option SectionHeader → Result (List ℕ) ElfFault
strings_in file place None = Err (faults.BadIndex (place + 40))
strings_in file place (Some h) =
    if h.kind == sht_strtab then Ok (bytes_at h.offset h.size file)
    else Err (faults.BadIndex (place + 40))

unfoldable pub strings_of : List ℕ → Table → ℕ → SectionHeader → Result (List ℕ) ElfFault
strings_of file t place h =
    if not (h.entsize == 24) then Err (faults.BadEntrySize (place + 56))
    else strings_in file place (slice_get t.headers h.link)

-- the symbols of a symbol table, whose header stands at this place
unfoldable pub symbols_in : List ℕ → Table → ℕ → SectionHeader → Result (List Sym) ElfFault
symbols_in file t place h = strings_of file t place h >>= entries_in file (length t.headers) h

-- a symbol table (SHT_SYMTAB) behind that of index i is refused
abbrev pub refuse_second : Table → ℕ → Result (Unit {0}) ElfFault
refuse_second t i =
    unless_at (λ j. faults.BadIndex (place_of t j + 4)) (first_of sht_symtab (i + 1) t.headers)

-- the symbols of the symbol table of this index, if there is one, which is the only one
abbrev pub symbols_at : List ℕ → Table → Option ℕ → Result (List Sym) ElfFault
symbols_at file t None = Ok []
symbols_at file t (Some i) = do
  symbols ← read_in (symbols_in file t (place_of t i)) (slice_get t.headers i)
  _ ← refuse_second t i
  Ok symbols

-- the symbols of an object, or the first fault
unfoldable pub read_symbols : List ℕ → Table → Result (List Sym) ElfFault
read_symbols file t = symbols_at file t (first_of sht_symtab 0 t.headers)
