-- The words of a list of page copies: a page's address with one flag (the kernel's kimage_entry_t; the items'
-- names are this project's own).
-- No clause of `kexec` reaches what stands here: it serves laws, and contracts inside the crates.
use Rattle.std.specs.Prelude.{◌<◌, ◌^◌}
use Rattle.kx_pages.specs.declared.item.Item.{Item}
use Rattle.kx_pages.specs.declared.item.Item.TheVariants.{Link, Destination, Source, Done}

-- the item is some word's: the number of a done word is its high bits
abbrev pub HasWord : Item → Type 0
HasWord (Link p) = Unit {0}
HasWord (Destination p) = Unit {0}
HasWord (Source p) = Unit {0}
HasWord (Done n) = n < 2 ^ 52
