-- How a list is run, told by its swap page: plain moves have none. This project's own: Linux 6.1 takes a swap page for
-- each load but that of a crash kernel, and exchanges pages by way of it in any case; from 6.14 on its plain moves copy.
-- No clause of `kexec` reaches what stands here: it serves laws, and contracts inside the crates.
use Rattle.std.specs.Prelude.{ℕ, Option, Some, None}
use Rattle.kx_pages.specs.declared.image.Mode.{Mode}
use Rattle.kx_pages.specs.declared.image.Mode.TheVariants.{Plain, Kept}

-- the mode with this swap page, plain for none
abbrev pub mode_of : Option ℕ → Mode
mode_of None = Plain
mode_of (Some swap) = Kept swap
