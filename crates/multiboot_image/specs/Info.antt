-- The information that a Multiboot kernel finds at its start (Multiboot Specification 0.6.96, section 3.3), at the address
-- `at`: a structure of 88 bytes and behind it, without gaps, the map, the module table, the command, the loader's name and
-- the modules' texts (the order is this project's own).
use Rattle.std.specs.Prelude.{ℕ, ◌+◌, ◌*◌, ◌++◌, List, [], ◌∷◌, length, codes}
use Rattle.kx_fields.specs.Fields.{zeros}
use Rattle.kx_fields.specs.Formats.{Format, written}
use Rattle.memory_map.specs.declared.row.Row.{Row}
use Rattle.multiboot_image.specs.declared.info.Info.{Info}
use Rattle.multiboot_image.specs.declared.info.Places.{Places}
use Rattle.multiboot_image.specs.MapRows.{mem_lower, mem_upper, map_text}
use Rattle.multiboot_image.specs.Modules.{PlacedModule, module_table, with_nul, texts, texts_size}

abbrev pub info_format : Format Info
info_format = record {
  layout = λ at. record {
    flags = at 0 4;
    mem_lower = at 4 4;
    mem_upper = at 8 4;
    cmdline = at 16 4;
    mods_count = at 20 4;
    mods_addr = at 24 4;
    mmap_length = at 44 4;
    mmap_addr = at 48 4;
    boot_loader_name = at 64 4;
  };
  numbers =
      λ i. i.flags ∷ i.mem_lower ∷ i.mem_upper ∷ i.cmdline ∷ i.mods_count ∷ i.mods_addr
      ∷ i.mmap_length ∷ i.mmap_addr ∷ i.boot_loader_name ∷ [];
}

unfoldable pub info_text : Info → List ℕ
info_text i = written info_format i (zeros 88)

-- the address of the loader's name, with so many rows, modules and bytes of the command
abbrev pub name_place : ℕ → ℕ → ℕ → ℕ → ℕ
name_place at rows modules command = at + 88 + 24 * rows + 16 * modules + command + 1

-- the addresses of all parts
abbrev pub places_of : ℕ → ℕ → ℕ → ℕ → Places
places_of at rows modules command = record {
  map = at + 88;
  modules = at + 88 + 24 * rows;
  command = at + 88 + 24 * rows + 16 * modules;
  name = name_place at rows modules command;
  texts = name_place at rows modules command + 6;
}

-- the structure: bits 0, 2, 3, 6 and 9 of its flags say that memory, command, modules, map and the loader's name are told
abbrev pub info_of : Places → List Row → ℕ → Info
info_of p rows modules = record {
  flags = 0x24d;
  mem_lower = mem_lower rows;
  mem_upper = mem_upper rows;
  cmdline = p.command;
  mods_count = modules;
  mods_addr = p.modules;
  mmap_length = 24 * length rows;
  mmap_addr = p.map;
  boot_loader_name = p.name;
}

-- the information
unfoldable pub info : ℕ → List Row → List ℕ → List PlacedModule → List ℕ
info at rows command modules =
    info_text
    (info_of (places_of at (length rows) (length modules) (length command)) rows
    (length modules))
    ++ (map_text rows
    ++ (module_table (places_of at (length rows) (length modules) (length command)).texts modules
    ++ (with_nul command
    ++ (with_nul (codes "kexec")
    ++ texts modules))))

-- how many bytes the information has
abbrev pub info_size : ℕ → ℕ → List PlacedModule → ℕ
info_size rows command modules =
    88 + 24 * rows + 16 * length modules + (command + 1) + 6 + texts_size modules
