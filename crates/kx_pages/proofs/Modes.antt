-- A mode and its swap page tell the same.
use Rattle.std.proofs.Common.{◌≡◌, refl}
use Rattle.kx_pages.specs.declared.image.Mode.{Mode}
use Rattle.kx_pages.specs.declared.image.Mode.TheVariants.{Plain, Kept}
use Rattle.kx_pages.specs.Modes.{swap_page}
use Rattle.kx_pages.specs.inner.Modes.{mode_of}

pub mode_of-swap_page : (mode : Mode) → mode_of (swap_page mode) ≡ mode
mode_of-swap_page Plain = refl
mode_of-swap_page (Kept swap) = refl
