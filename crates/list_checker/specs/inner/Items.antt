-- What the words of a list are read as (this project's own).
-- No clause of `kexec` reaches what stands here: it serves laws, and contracts inside the crates.
use Rattle.std.specs.Prelude.{◌≡◌, ◌^◌, leb, false}
use Rattle.kx_pages.specs.declared.item.Item.{Item}
use Rattle.kx_pages.specs.declared.item.Item.TheVariants.{Link, Destination, Source, Done}
use Rattle.kx_pages.specs.declared.item.WordFault.{WordFault}
use Rattle.kx_pages.specs.declared.item.WordFault.TheVariants as faults
use Rattle.list_checker.specs.declared.fault.Why.{Why}
use Rattle.list_checker.specs.declared.fault.Why.TheVariants.{Flags, PastLimit}

-- the page that an item names lies below the limit
abbrev pub IsBelow : Item → Type 0
IsBelow (Link p) = leb (2 ^ 34) p ≡ false
IsBelow (Destination p) = leb (2 ^ 34) p ≡ false
IsBelow (Source p) = leb (2 ^ 34) p ≡ false
IsBelow (Done p) = Unit {0}

-- why a word is refused that is no item
abbrev pub why_of : WordFault → Why
why_of faults.Flags = Flags
why_of faults.PastLimit = PastLimit
