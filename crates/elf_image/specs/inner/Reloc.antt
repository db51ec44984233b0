-- Relocations with addends (ELF gABI, "Relocation": Elf64_Rela).
-- No clause of `kexec` reaches what stands here: it serves laws, and contracts inside the crates.
use Rattle.std.specs.Prelude.{ℕ, ◌+◌, ◌*◌, ◌/◌, ◌^◌, ◌≤◌, Bool, List, length, nat_lt}
use Rattle.kx_fields.specs.Fields.{bytes_at}
use Rattle.kx_fields.specs.Formats.{read}
use Rattle.elf_image.specs.declared.reloc.RelocSection.{RelocSection}
use Rattle.elf_image.specs.Reloc.{rela}

-- the entries lie in the file
abbrev pub AreInside : List ℕ → RelocSection → Type 0
AreInside file s = s.offset + 24 * s.count ≤ length file

-- the symbol of an entry at this place of the file is one of so many
unfoldable pub has_symbol : List ℕ → ℕ → ℕ → Bool
has_symbol file symbols at = nat_lt ((read rela (bytes_at at 24 file)).info / 2 ^ 32) symbols
