-- A relocatable object (ELF gABI, "Sections", "Symbol Table", "Relocation"; the order of the refusals is this project's
-- own).
-- No clause of `kexec` reaches what stands here: it serves laws, and contracts inside the crates.
use Rattle.std.specs.Prelude.{◌≡◌, ℕ, ◌<◌, ◌⊎◌, List, length}
use Rattle.std.specs.List.{All}
use Rattle.elf_image.specs.declared.reloc.RelocSection.{RelocSection}
use Rattle.elf_image.specs.Numbers.{shn_abs, shn_common}
use Rattle.elf_image.specs.Sym.{Sym}
use Rattle.elf_image.specs.inner.Section.{IsInside}
use Rattle.elf_image.specs.Reloc.{entry_of}
use Rattle.elf_image.specs.inner.Reloc.{AreInside}
use Rattle.elf_image.specs.Object.{Relocatable}

-- a symbol's section is one of so many, or SHN_ABS or SHN_COMMON
pub record IsDefined (sections : ℕ) (s : Sym) : Type 0 where
  pub index : (s.section < sections) ⊎ ((s.section ≡ shn_abs) ⊎ (s.section ≡ shn_common))

-- a section of relocations lies in the file, its target is one of so many sections, and the symbol of each of its
-- entries one of so many symbols
pub record IsRelocSection (file : List ℕ) (sections symbols : ℕ) (s : RelocSection) : Type 0 where
  pub target : s.target < sections
  pub inside : AreInside file s
  pub symbol : (k : ℕ) → k < s.count → (entry_of file s k).symbol < symbols

-- the sections' bytes lie in the file, and each index is one
pub record IsObject (o : Relocatable) (file : List ℕ) : Type 0 where
  pub sections : All (IsInside file) o.sections
  pub symbols : All (IsDefined (length o.sections)) o.symbols
  pub relocs : All (IsRelocSection file (length o.sections) (length o.symbols)) o.reloc_sections
