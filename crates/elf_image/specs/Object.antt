-- A relocatable object (ELF gABI, "Sections", "Symbol Table", "Relocation"; the order of the refusals is this project's
-- own).
use Rattle.std.specs.Prelude.{ℕ, List, length, map, Result, Ok}
use Rattle.std.specs.List.{flat_map}
use Rattle.kx_laws.specs.Results.{◌>>=◌}
use Rattle.elf_image.specs.declared.fault.ElfFault.{ElfFault}
use Rattle.elf_image.specs.declared.section.Section.{Section}
use Rattle.elf_image.specs.declared.reloc.Reloc.{Reloc}
use Rattle.elf_image.specs.declared.reloc.RelocSection.{RelocSection}
use Rattle.elf_image.specs.Sym.{Sym}
use Rattle.elf_image.specs.Section.{section_of, read_table}
use Rattle.elf_image.specs.Symbol.{read_symbols}
use Rattle.elf_image.specs.Reloc.{entries_of, read_relocs}

-- what contracts see of an object
pub record Relocatable : Type 0 where
  pub sections : List Section
  pub symbols : List Sym
  pub reloc_sections : List RelocSection

-- the relocations of an object that this file has, in the order of their sections and entries
abbrev pub relocs_of : List ℕ → Relocatable → List Reloc
relocs_of file o = flat_map (entries_of file) o.reloc_sections

-- what a file reads as, or its first fault: that of the headers, then of the symbols, then of the relocations
unfoldable pub object_reading : List ℕ → Result Relocatable ElfFault
object_reading file = do
  t ← read_table file
  symbols ← read_symbols file t
  relocs ← read_relocs file t (length symbols)
  Ok (record { sections = map section_of t.headers; symbols = symbols; reloc_sections = relocs })
