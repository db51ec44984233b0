-- Relocations: the field of each, the number that it holds, and the first fault (x86-64 psABI, "Relocation"; ELF gABI,
-- "Relocation").
-- No clause of `kexec` reaches what stands here: it serves laws, and contracts inside the crates.
use Rattle.std.specs.Prelude.{◌≡◌, ℕ, ◌+◌, ◌<◌, ◌≤◌, ◌⊎◌, ◌^◌, ◌==◌, ◌&&◌, Bool, List, Option, Some, None, is_ok}
use Rattle.kx_fields.specs.Fields.{with_field}
use Rattle.elf_image.specs.declared.reloc.Reloc.{Reloc}
use Rattle.elf_image.specs.declared.reloc.RelocSection.{RelocSection}
use Rattle.elf_image.specs.Object.{Relocatable}
use Rattle.elf_image.specs.Reloc.{entry_of}
use Rattle.purgatory_link.specs.declared.put.Put.{Put}
use Rattle.purgatory_link.specs.Symbols.{start_at, symbol_value}
use Rattle.purgatory_link.specs.Relocs.{size_at}

-- each loaded section ends within n bytes
pub record HasRoom (o : Relocatable) (starts : List (Option ℕ)) (n : ℕ) : Type 0 where
  pub fits : (i s : ℕ) → start_at starts i ≡ Some s → s + size_at o i ≤ n

-- the bytes with the number of a field, if there is one
abbrev pub with_put : Option Put → List ℕ → List ℕ
with_put None bytes = bytes
with_put (Some p) bytes = with_field p.at p.wide p.value bytes

-- a field of 4 or 8 bytes that lies within n bytes, and whose number fits it
pub record IsPut (n : ℕ) (p : Put) : Type 0 where
  pub inside : p.at + p.wide ≤ n
  pub wide : (p.wide ≡ 4) ⊎ (p.wide ≡ 8)
  pub fits : p.value < 256 ^ p.wide

-- a relocation of type R_X86_64_NONE whose symbol has a value
abbrev pub is_none : ℕ → Relocatable → List (Option ℕ) → Reloc → Bool
is_none base o starts r =
    (r.kind == 0) && is_ok (symbol_value base starts o.symbols r.symbol)

-- the section of the one relocation at this place of a file
abbrev pub alone : ℕ → RelocSection
alone at = record { section = 0; target = 0; offset = at; count = 1 }

-- the relocation at this place of the file is one
unfoldable pub is_idle : ℕ → Relocatable → List ℕ → List (Option ℕ) → ℕ → Bool
is_idle base o file starts at = is_none base o starts (entry_of file (alone at) 0)
