-- The words of a list of page copies: a page's address with one flag (the kernel's kimage_entry_t; the items'
-- names are this project's own).
use Rattle.std.specs.Prelude.{ℕ, ◌+◌, ◌*◌, ◌/◌, ◌%◌, ◌^◌, leb, Option, Some, None, Result, Ok, Err, if◌then◌else◌, ◌==◌}
use Rattle.kx_pages.specs.declared.item.Item.{Item}
use Rattle.kx_pages.specs.declared.item.Item.TheVariants.{Link, Destination, Source, Done}
use Rattle.kx_pages.specs.declared.item.WordFault.{WordFault}
use Rattle.kx_pages.specs.declared.item.WordFault.TheVariants.{Flags, PastLimit}

-- the word of an item
abbrev pub code : Item → ℕ
code (Destination p) = 4096 * p + 1
code (Link p) = 4096 * p + 2
code (Done p) = 4096 * p + 4
code (Source p) = 4096 * p + 8

-- the item that a word is, whatever the page: none where its low twelve bits are not exactly one flag
abbrev pub decode : ℕ → Option Item
decode w =
    if w % 4096 == 1 then Some (Destination (w / 4096))
    else if w % 4096 == 2 then Some (Link (w / 4096))
    else if w % 4096 == 4 then Some (Done (w / 4096))
    else if w % 4096 == 8 then Some (Source (w / 4096))
    else None

-- an item whose page lies below the limit; a done word names no page
abbrev pub below_limit : Item → Result Item WordFault
below_limit (Destination p) = if leb (2 ^ 34) p then Err PastLimit else Ok (Destination p)
below_limit (Link p) = if leb (2 ^ 34) p then Err PastLimit else Ok (Link p)
below_limit (Source p) = if leb (2 ^ 34) p then Err PastLimit else Ok (Source p)
below_limit (Done p) = Ok (Done p)

abbrev pub item_by : Option Item → Result Item WordFault
item_by None = Err Flags
item_by (Some item) = below_limit item

-- the item that a word is, or why it is none
abbrev pub item_of : ℕ → Result Item WordFault
item_of w = item_by (decode w)
