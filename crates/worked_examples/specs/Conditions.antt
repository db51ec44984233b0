-- Lists that break one condition of acceptance, for the examples (this project's own).
use Rattle.std.specs.Prelude.{ℕ, List, [], ◌∷◌}
use Rattle.kx_pages.specs.declared.item.Item.{Item}
use Rattle.kx_pages.specs.declared.item.Item.TheVariants.{Link, Destination, Source, Done}
use Rattle.kx_pages.specs.Bytes.{Mem, Wants}
use Rattle.list_checker.specs.Walk.{Accepted, AcceptedKept}

-- no list of these items with this head and control page is accepted, whatever memory holds and whatever is wanted
abbrev pub NeverAccepted : ℕ → ℕ → List Item → Type 0
NeverAccepted head control is = (M : Mem) (W : Wants) → Accepted M W head control is → ⊥

-- the same with context preserved and this swap page
abbrev pub NeverKept : ℕ → ℕ → ℕ → List Item → Type 0
NeverKept head control swap is =
    (M : Mem) (W : Wants) → AcceptedKept M W head control swap is → ⊥

-- a link word names the page that an earlier one named
abbrev pub linked_twice : List Item
linked_twice = Link 0x11 ∷ Link 0x11 ∷ Done 0 ∷ []

-- there is a source word, and no destination word
abbrev pub source_alone : List Item
source_alone = Link 0x11 ∷ Source 0x12 ∷ Done 0 ∷ []

-- page 2 comes from page 12, and again from page 13
abbrev pub written_twice : List Item
written_twice =
    Link 0x11 ∷ Destination 2 ∷ Source 0x12 ∷ Destination 2 ∷ Source 0x13 ∷ Done 0 ∷ []

-- page 2, which comes from page 12, is the list's own page
abbrev pub over_itself : List Item
over_itself = Link 2 ∷ Destination 2 ∷ Source 0x12 ∷ Done 0 ∷ []

-- page 2 comes from the list's own page
abbrev pub from_itself : List Item
from_itself = Link 0x11 ∷ Destination 2 ∷ Source 0x11 ∷ Done 0 ∷ []
