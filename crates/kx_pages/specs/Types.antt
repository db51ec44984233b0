-- What a kernel of a type needs (this project's own).
use Rattle.std.specs.Prelude.{Bool, true}
use Rattle.kx_pages.specs.declared.image.ImageType.{ImageType}
use Rattle.kx_pages.specs.declared.image.ImageType.TheVariants as types

-- A memory map must be known: for each type but raw, whose place is given, and for a purgatory, whose place is found.
abbrev pub needs_map : ImageType → Bool → Bool
needs_map (types.Raw at entry) purgatory = purgatory
needs_map types.Auto purgatory = true
needs_map types.Elf purgatory = true
needs_map types.Bzimage purgatory = true
needs_map types.Multiboot purgatory = true
