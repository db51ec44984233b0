-- Modules in the information of a Multiboot kernel: their table and their texts (Multiboot Specification 0.6.96, section
-- 3.3, mods_addr).
-- No clause of `kexec` reaches what stands here: it serves laws, and contracts inside the crates.
use Rattle.std.specs.Prelude.{ℕ, ◌+◌, ◌^◌, ◌<◌, List, [], ◌∷◌, length}
use Rattle.multiboot_image.specs.Modules.{PlacedModule}

-- the addresses in the module table are below 2^32, where the texts begin at this address
abbrev pub AreBelow : ℕ → List PlacedModule → Type 0
AreBelow text [] = Unit {0}
AreBelow text (m ∷ ms) =
    (m.start + m.size < 2 ^ 32) × (text < 2 ^ 32) × AreBelow (text + length m.text + 1) ms
