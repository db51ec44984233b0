-- The information that a Multiboot kernel finds at its start (Multiboot Specification 0.6.96, section 3.3), at the address
-- `at`: a structure of 88 bytes and behind it, without gaps, the map, the module table, the command, the loader's name and
-- the modules' texts (the order is this project's own).
-- No clause of `kexec` reaches what stands here: it serves laws, and contracts inside the crates.
use Rattle.std.specs.Prelude.{ℕ, ◌+◌, ◌*◌, ◌^◌, ◌<◌, ◌≤◌, List, length}
use Rattle.memory_map.specs.declared.row.Row.{Row}
use Rattle.multiboot_image.specs.declared.info.Places.{Places}
use Rattle.multiboot_image.specs.Modules.{PlacedModule}
use Rattle.multiboot_image.specs.inner.Modules.{AreBelow}
use Rattle.multiboot_image.specs.Info.{name_place, info_size}

-- what places of parts that follow one another keep
pub record AreRising (p : Places) (rows modules : ℕ) : Type 0 where
  pub map : p.map + 24 * rows ≤ p.modules
  pub table : p.modules + 16 * modules ≤ p.command
  pub command : p.command ≤ p.name

-- all addresses that are written are below 2^32
pub record IsInReach (at : ℕ) (rows : List Row) (command : List ℕ) (modules : List PlacedModule)
    : Type 0 where
  pub name : name_place at (length rows) (length modules) (length command) < 2 ^ 32
  pub table : AreBelow (name_place at (length rows) (length modules) (length command) + 6) modules

abbrev pub info_length_of : List Row → List ℕ → List PlacedModule → ℕ
info_length_of rows command modules = info_size (length rows) (length command) modules
