-- What the linked bytes are (x86-64 psABI, "Relocation"): each relocated field holds its formula's value, and every
-- other byte is its section's, or zero.
-- No clause of `kexec` reaches what stands here: it serves laws, and contracts inside the crates.
use Rattle.std.specs.Prelude.{◌≡◌, ℕ, ◌+◌, ◌-◌, ◌^◌, ◌&&◌, Bool, false, List, [], ◌∷◌, nat_le, nat_lt, slice_index, Option, Some, None, Ok, if◌then◌else◌}
use Rattle.std.specs.List.{list_any, AllByRecursion}
use Rattle.kx_fields.specs.Fields.{field}
use Rattle.elf_image.specs.declared.section.Section.{Section}
use Rattle.elf_image.specs.declared.reloc.Reloc.{Reloc}
use Rattle.elf_image.specs.Object.{Relocatable, relocs_of}
use Rattle.purgatory_link.specs.declared.form.Form.{Form}
use Rattle.purgatory_link.specs.Symbols.{start_at, symbol_value}
use Rattle.purgatory_link.specs.Formulas.{form_of, wide, formula, modulo}
use Rattle.purgatory_link.specs.Layout.{contents}
use Rattle.purgatory_link.specs.Link.{starts_of}

-- a relocation's field holds the value of its formula modulo 2 to the power of its width, where its target is loaded
pub record Holds (base : ℕ) (o : Relocatable) (bytes : List ℕ) (r : Reloc) : Type 0 where
  pub value : (start : ℕ) (form : Form) (s : ℕ)
      → start_at (starts_of o) r.target ≡ Some start
      → form_of r.kind ≡ Some form
      → symbol_value base (starts_of o) o.symbols r.symbol ≡ Ok s
      → field (start + r.offset) (wide form) bytes
      ≡ modulo (256 ^ wide form) (formula form s r.addend (base + (start + r.offset)))

-- each relocation's field does
abbrev pub AllHold : ℕ → Relocatable → List ℕ → List ℕ → Type 0
AllHold base o file bytes = AllByRecursion (Holds base o bytes) (relocs_of file o)

-- byte k is one of a field
abbrev pub is_in_field : ℕ → ℕ → Option ℕ → Option Form → Bool
is_in_field k offset (Some start) (Some form) =
    nat_le (start + offset) k && nat_lt k (start + offset + wide form)
is_in_field k offset start form = false

-- or of one of the relocations' fields
abbrev pub is_relocated : Relocatable → List ℕ → ℕ → Bool
is_relocated o file k =
    list_any (λ r. is_in_field k r.offset (start_at (starts_of o) r.target) (form_of r.kind))
    (relocs_of file o)

-- byte k of a section that starts at this place, or else another
abbrev pub section_byte : List ℕ → ℕ → Section → Option ℕ → ℕ → ℕ
section_byte file k s None other = other
section_byte file k s (Some start) other =
    if nat_le start k && nat_lt k (start + s.size) then slice_index (contents file s) (k - start)
    else other

-- byte k of the section that has it, or zero
unfoldable pub laid_byte : List ℕ → ℕ → List Section → List (Option ℕ) → ℕ
laid_byte file k [] starts = 0
laid_byte file k (s ∷ ss) [] = 0
laid_byte file k (s ∷ ss) (start ∷ starts) =
    section_byte file k s start (laid_byte file k ss starts)

-- every other byte is its section's, or zero
pub record KeepsOthers (o : Relocatable) (file bytes : List ℕ) : Type 0 where
  pub others : (k : ℕ)
      → is_relocated o file k ≡ false
      → slice_index bytes k ≡ laid_byte file k o.sections (starts_of o)
