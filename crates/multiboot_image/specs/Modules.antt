-- Modules in the information of a Multiboot kernel: their table and their texts (Multiboot Specification 0.6.96, section
-- 3.3, mods_addr).
use Rattle.std.specs.Prelude.{ℕ, ◌+◌, ◌++◌, List, [], ◌∷◌, length}
use Rattle.std.specs.List.{flat_map}
use Rattle.kx_fields.specs.Fields.{zeros}
use Rattle.kx_fields.specs.Formats.{Format, written}
use Rattle.multiboot_image.specs.declared.modules.ModuleRow.{ModuleRow}

-- a module in memory, and its text
pub record PlacedModule : Type 0 where
  pub start : ℕ
  pub size : ℕ
  pub text : List ℕ

abbrev pub module_row : Format ModuleRow
module_row = record {
  layout =
      λ at. record { mod_start = at 0 4; mod_end = at 4 4; string = at 8 4; reserved = at 12 4 };
  numbers = λ m. m.mod_start ∷ m.mod_end ∷ m.string ∷ m.reserved ∷ [];
}

unfoldable pub module_text : ModuleRow → List ℕ
module_text m = written module_row m (zeros 16)

-- the row of a module whose text is at this address
abbrev pub module_row_of : ℕ → PlacedModule → ModuleRow
module_row_of text m =
    record { mod_start = m.start; mod_end = m.start + m.size; string = text; reserved = 0 }

abbrev pub module_bytes : ℕ → PlacedModule → List ℕ
module_bytes text m = module_text (module_row_of text m)

-- the module table, where the texts begin at this address
abbrev pub module_table : ℕ → List PlacedModule → List ℕ
module_table text [] = []
module_table text (m ∷ ms) = module_bytes text m ++ module_table (text + length m.text + 1) ms

-- a text and a NUL
abbrev pub with_nul : List ℕ → List ℕ
with_nul text = text ++ 0 ∷ []

abbrev pub texts : List PlacedModule → List ℕ
texts modules = flat_map (λ m. with_nul m.text) modules

abbrev pub texts_size : List PlacedModule → ℕ
texts_size modules = length (texts modules)
