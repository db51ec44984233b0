-- How a list is run, told by its swap page: plain moves have none. This project's own: Linux 6.1 takes a swap page for
-- each load but that of a crash kernel, and exchanges pages by way of it in any case; from 6.14 on its plain moves copy.
use Rattle.std.specs.Prelude.{ℕ, Option, Some, None}
use Rattle.kx_pages.specs.declared.image.Mode.{Mode}
use Rattle.kx_pages.specs.declared.image.Mode.TheVariants.{Plain, Kept}

-- the swap page of a mode
abbrev pub swap_page : Mode → Option ℕ
swap_page Plain = None
swap_page (Kept swap) = Some swap
