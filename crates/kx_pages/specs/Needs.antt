-- How many pages of the pool a load takes: a source for each destination page, the link pages of its list, and the
-- pages before these. The list is that of the kernel's kexec core: an entry for each segment and each of its pages, and
-- in each page of entries one slot for the link to the next. How many are taken is this project's own.
use Rattle.std.specs.Prelude.{ℕ, ◌+◌, ◌-◌, ◌/◌}
use Rattle.kx_pages.specs.declared.image.Wish.{Wish}
use Rattle.kx_pages.specs.declared.image.Wish.TheVariants.{Plain, Kept}

-- the pages before the link pages: the control page, and with context preserved the swap page
abbrev pub first_count : Wish → ℕ
first_count Plain = 1
first_count Kept = 2

-- the entries of a link page: it has 512 words, and the last one leads on or ends the list
abbrev pub link_page_entries : ℕ
link_page_entries = 511

-- how many link pages so many entries take
abbrev pub link_pages_for : ℕ → ℕ
link_pages_for entries = (entries + (link_page_entries - 1)) / link_page_entries

-- the pages that a load of so many segments takes, which have so many pages together
abbrev pub need_of : Wish → (segments pages : ℕ) → ℕ
need_of wish segments pages = pages + link_pages_for (segments + pages) + first_count wish
