-- The linked object, or the first fault (ELF gABI; x86-64 psABI, "Relocation"; the order of the refusals is this
-- project's own).
use Rattle.std.specs.Prelude.{ℕ, List, position, Option, Result, Ok}
use Rattle.elf_image.specs.Object.{Relocatable}
use Rattle.purgatory_link.specs.declared.fault.LinkFault.{LinkFault}
use Rattle.purgatory_link.specs.declared.fault.LinkFault.TheVariants as faults
use Rattle.kx_laws.specs.Results.{◌>>=◌, unless_at}
use Rattle.purgatory_link.specs.Sym.{Image}
use Rattle.purgatory_link.specs.Layout.{is_rel, starts, lay, fill_up, linked_size}
use Rattle.purgatory_link.specs.Symbols.{names_of}
use Rattle.purgatory_link.specs.Relocs.{relocate}

-- the loaded sections, n bytes, before they are relocated
abbrev pub unlinked_bytes : Relocatable → List ℕ → ℕ → List ℕ
unlinked_bytes o file n = fill_up n (lay file 0 o.sections)

-- where each section of the object starts
abbrev pub starts_of : Relocatable → List (Option ℕ)
starts_of o = starts 0 o.sections

-- the object of n bytes, linked at base
unfoldable pub link_at : ℕ → Relocatable → List ℕ → ℕ → Result Image LinkFault
link_at base o file n = do
  bytes ← relocate base o file (starts_of o) (unlinked_bytes o file n)
  Ok (record { base = base; bytes = bytes; names = names_of base (starts_of o) o.symbols })

-- the object of this file, linked at base, or the first fault
unfoldable pub linking : ℕ → Relocatable → List ℕ → Result Image LinkFault
linking base o file = do
  _ ← unless_at faults.RelSection (position (is_rel o.sections) o.sections)
  n ← linked_size o.sections
  link_at base o file n
