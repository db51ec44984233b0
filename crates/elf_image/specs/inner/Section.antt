-- Sections and their headers (ELF gABI, "Section Header": Elf64_Shdr).
-- No clause of `kexec` reaches what stands here: it serves laws, and contracts inside the crates.
use Rattle.std.specs.Prelude.{◌≡◌, ℕ, ◌+◌, ◌*◌, ◌≤◌, List, length}
use Rattle.std.specs.List.{All}
use Rattle.elf_image.specs.declared.section.Section.{Section}
use Rattle.elf_image.specs.declared.section.SectionHeader.{SectionHeader}
use Rattle.elf_image.specs.Numbers.{sht_null, sht_nobits}
use Rattle.elf_image.specs.Table.{Table}
use Rattle.elf_image.specs.Section.{section_of}

-- the bytes of a section of another type than SHT_NULL and SHT_NOBITS lie in the file
pub record IsInside (file : List ℕ) (s : Section) : Type 0 where
  pub inside : (s.kind ≡ sht_null → ⊥) → (s.kind ≡ sht_nobits → ⊥) → s.offset + s.size ≤ length file

-- the section headers lie in the file, and the bytes of their sections too
pub record IsTable (file : List ℕ) (t : Table) : Type 0 where
  pub inside : t.start + 64 * length t.headers ≤ length file
  pub each : All (λ h. IsInside file (section_of h)) t.headers

-- the bytes of this section lie in the file whose section headers these are
abbrev pub Lies : Table → SectionHeader → Type 0
Lies t h = (file : List ℕ) → IsTable file t → IsInside file (section_of h)
