-- The values of symbols (ELF gABI, "Symbol Table": st_shndx, st_value).
use Rattle.std.specs.Prelude.{ℕ, ◌+◌, ◌%◌, ◌^◌, ◌==◌, ◌||◌, Bool, List, [], ◌∷◌, ◌++◌, Option, Some, None, Result, Ok, Err, if◌then◌else◌}
use Rattle.std.specs.List.{slice_get, flat_map}
use Rattle.purgatory_link.specs.declared.fault.LinkFault.{LinkFault}
use Rattle.purgatory_link.specs.declared.fault.LinkFault.TheVariants as faults
use Rattle.elf_image.specs.Numbers.{shn_undef, shn_abs, shn_common}
use Rattle.elf_image.specs.Sym.{Sym}
use Rattle.purgatory_link.specs.Sym.{Named}

-- where the section of this index starts, if it is there and loaded
abbrev pub known_start : Option (Option ℕ) → Option ℕ
known_start None = None
known_start (Some start) = start

abbrev pub start_at : List (Option ℕ) → ℕ → Option ℕ
start_at starts i = known_start (slice_get starts i)

-- no section's index: SHN_UNDEF, SHN_ABS or SHN_COMMON
abbrev pub is_special : ℕ → Bool
is_special n = (n == shn_undef) || ((n == shn_abs) || (n == shn_common))

-- where the section starts in which a symbol is defined, if it is loaded
abbrev pub home : List (Option ℕ) → Sym → Option ℕ
home starts s = if is_special s.section then None else start_at starts s.section

-- the address of a symbol of the section that starts at this place
abbrev pub address : ℕ → ℕ → Sym → ℕ
address base start s = (base + start + s.value) % 2 ^ 64

-- the address of a symbol that is defined in a loaded section
abbrev pub address_in : ℕ → ℕ → Sym → Option ℕ → Result ℕ LinkFault
address_in base i s None = Err (faults.Undefined i)
address_in base i s (Some start) = Ok (address base start s)

-- the value of a symbol other than 0, or why it has none
abbrev pub value_of : ℕ → List (Option ℕ) → ℕ → Option Sym → Result ℕ LinkFault
value_of base starts i None = Err (faults.Undefined i)
value_of base starts i (Some s) =
    if s.section == shn_abs then Ok s.value
    else if s.section == shn_common then Err (faults.Common i)
    else address_in base i s (home starts s)

-- the value of the symbol of this index. Symbol 0 has the value 0.
unfoldable pub symbol_value : ℕ → List (Option ℕ) → List Sym → ℕ → Result ℕ LinkFault
symbol_value base starts symbols i =
    if i == 0 then Ok 0 else value_of base starts i (slice_get symbols i)

-- the name and size of a symbol, with this address
abbrev pub name_at : ℕ → Sym → Named
name_at at s = record { name = s.name; address = at; size = s.size }

-- the name, address and size of a symbol that is defined in a loaded section
abbrev pub named_at : ℕ → Sym → Option ℕ → List Named
named_at base s None = []
named_at base s (Some start) = name_at (address base start s) s ∷ []

abbrev pub named_symbols : ℕ → List (Option ℕ) → Sym → List Named
named_symbols base starts s = named_at base s (home starts s)

-- symbol 0 has the value 0 as an address too, where its entry names a loaded section
abbrev pub null_at : Sym → Option ℕ → List Named
null_at s None = []
null_at s (Some start) = name_at 0 s ∷ []

abbrev pub null_symbols : List (Option ℕ) → Sym → List Named
null_symbols starts s = null_at s (home starts s)

-- of all of them, in the order of their indexes
abbrev pub names_of : ℕ → List (Option ℕ) → List Sym → List Named
names_of base starts [] = []
names_of base starts (null ∷ symbols) =
    null_symbols starts null ++ flat_map (named_symbols base starts) symbols
