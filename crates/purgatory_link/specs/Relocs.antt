-- Relocations: the field of each, the number that it holds, and the first fault (x86-64 psABI, "Relocation"; ELF gABI,
-- "Relocation").
use Rattle.std.specs.Prelude.{ℕ, ◌+◌, ◌^◌, ◌==◌, ◌&&◌, not, Bool, List, [], ◌∷◌, ◌++◌, nat_lt, min, max, ℤ, Option, Some, None, Result, Ok, Err, if◌then◌else◌}
use Rattle.std.specs.List.{slice_get, list_any}
use Rattle.kx_laws.specs.Results.{◌>>=◌}
use Rattle.kx_fields.specs.Fields.{with_field}
use Rattle.elf_image.specs.declared.section.Section.{Section}
use Rattle.elf_image.specs.declared.reloc.Reloc.{Reloc}
use Rattle.elf_image.specs.Object.{Relocatable, relocs_of}
use Rattle.purgatory_link.specs.declared.form.Form.{Form}
use Rattle.purgatory_link.specs.declared.form.Form.TheVariants as forms
use Rattle.purgatory_link.specs.declared.put.Put.{Put}
use Rattle.purgatory_link.specs.declared.fault.LinkFault.{LinkFault}
use Rattle.purgatory_link.specs.declared.fault.LinkFault.TheVariants as faults
use Rattle.purgatory_link.specs.Symbols.{start_at, symbol_value}
use Rattle.purgatory_link.specs.Formulas.{form_of, wide, formula, fits, modulo}

-- the size of the section of this index
abbrev pub size_of : Option Section → ℕ
size_of None = 0
size_of (Some s) = s.size

abbrev pub size_at : Relocatable → ℕ → ℕ
size_at o i = size_of (slice_get o.sections i)

-- some byte of the w at this place is one of a field's
abbrev pub meets_one : ℕ → ℕ → Put → Bool
meets_one at w p = nat_lt (max at p.at) (min (at + w) (p.at + p.wide))

-- or of one of the fields'
abbrev pub meets : ℕ → ℕ → List Put → Bool
meets at w puts = list_any (meets_one at w) puts

-- a field of w bytes at this place from the base on: it lies in the section that it is of, and meets none of the
-- earlier ones
unfoldable pub test_place : ℕ → Relocatable → List Put → Reloc → ℕ → ℕ → Result (Unit {0}) LinkFault
test_place base o earlier r at w =
    if not (w == 0) && nat_lt (size_at o r.target) (r.offset + w)
    then Err (faults.OutsideSection r.section r.entry)
    else if meets at w earlier then Err (faults.RelocsMeet (base + at))
    else Ok tt

-- the field, with the value modulo 2 to the power of its width
abbrev pub put_value : ℕ → ℕ → Form → ℤ → Result (Option Put) LinkFault
put_value base at forms.Empty v = Ok None
put_value base at form v =
    if fits form v
    then Ok (Some (record { at = at; wide = wide form; value = modulo (256 ^ wide form) v }))
    else Err (faults.DoesNotFit (base + at))

-- what a relocation of a loaded section puts at this place from the base on
abbrev pub put_form : ℕ → Relocatable → List (Option ℕ) → List Put → Reloc → ℕ → Option Form
    → Result (Option Put) LinkFault
put_form base o starts earlier r at None = Err (faults.UnknownReloc r.kind)
put_form base o starts earlier r at (Some form) = do
  _ ← test_place base o earlier r at (wide form)
  s ← symbol_value base starts o.symbols r.symbol
  put_value base at form (formula form s r.addend (base + at))

-- a relocation whose target is not loaded is passed over
abbrev pub put_in : ℕ → Relocatable → List (Option ℕ) → List Put → Reloc → Option ℕ
    → Result (Option Put) LinkFault
put_in base o starts earlier r None = Ok None
put_in base o starts earlier r (Some start) =
    put_form base o starts earlier r (start + r.offset) (form_of r.kind)

-- what a relocation puts, and where, behind the earlier ones
unfoldable pub put_of : ℕ → Relocatable → List (Option ℕ) → List Put → Reloc
    → Result (Option Put) LinkFault
put_of base o starts earlier r = put_in base o starts earlier r (start_at starts r.target)

-- with one more, if there is one
abbrev pub with_one : List Put → Option Put → List Put
with_one puts None = puts
with_one puts (Some p) = puts ++ p ∷ []

-- what all relocations put, in their order, or the first fault
unfoldable pub puts_of : ℕ → Relocatable → List (Option ℕ) → List Put → List Reloc
    → Result (List Put) LinkFault
puts_of base o starts earlier [] = Ok earlier
puts_of base o starts earlier (r ∷ rs) = do
  p ← put_of base o starts earlier r
  puts_of base o starts (with_one earlier p) rs

-- the bytes with these numbers in these fields
unfoldable pub with_puts : List Put → List ℕ → List ℕ
with_puts [] bytes = bytes
with_puts (p ∷ ps) bytes = with_puts ps (with_field p.at p.wide p.value bytes)

-- the bytes with what all relocations of the object in this file put, or the first fault
unfoldable pub relocate : ℕ → Relocatable → List ℕ → List (Option ℕ) → List ℕ
    → Result (List ℕ) LinkFault
relocate base o file starts bytes = do
  ps ← puts_of base o starts [] (relocs_of file o)
  Ok (with_puts ps bytes)
