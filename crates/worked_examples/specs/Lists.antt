-- Lists of page copies in memory, for the examples (this project's own).
use Rattle.std.specs.Prelude.{◌≡◌, ℕ, ◌+◌, List, [], ◌∷◌, Option, Some, None}
use Rattle.kx_pages.specs.declared.item.Item.{Item}
use Rattle.kx_pages.specs.declared.item.Item.TheVariants.{Link, Destination, Source, Done}
use Rattle.kx_pages.specs.Bytes.{Mem}
use Rattle.page_memory.specs.Memory.{word}
use Rattle.segments.specs.Values.{SegmentValue, want, pages}
use Rattle.list_checker.specs.Walk.{IsAccepted}
use Rattle.list_checker.specs.Faults.{Faulty, Earlier, nothing_earlier}
use Rattle.list_checker.specs.inner.Faults.{reason}
use Rattle.list_checker.specs.declared.fault.Why.{Why}

-- M has these words from address a on
abbrev pub HasWords : Mem → ℕ → List ℕ → Type 0
HasWords M a [] = Unit {0}
HasWords M a (w ∷ ws) = (word M a ≡ w) × HasWords M (a + 8) ws

-- of the list with this head, word n is the first that has a reason, and this is its first one
abbrev pub FirstFault : Mem → List SegmentValue → ℕ → ℕ → Option ℕ → ℕ → Why → Type 0
FirstFault M ss head control swap n why =
    Faulty M (want ss) (pages ss) control swap None nothing_earlier head n why

-- no list with this head is accepted
abbrev pub NoneAccepted : Mem → List SegmentValue → ℕ → ℕ → Option ℕ → Type 0
NoneAccepted M ss head control swap =
    (is : List Item) → IsAccepted M (want ss) head control swap is → ⊥

-- page 2 comes from page 12
abbrev pub one_move : List Item
one_move = Link 0x11 ∷ Destination 2 ∷ Source 0x12 ∷ Done 0 ∷ []

-- page 2 stays, and page 3 comes from page 13
abbrev pub one_at_home : List Item
one_at_home = Link 0x12 ∷ Destination 2 ∷ Source 2 ∷ Source 0x13 ∷ Done 0 ∷ []

-- page 4 comes from page 3, and then page 3 from page 2
abbrev pub last_page_first : List Item
last_page_first = Link 0x20 ∷ Destination 4 ∷ Source 3 ∷ Destination 3 ∷ Source 2 ∷ Done 0 ∷ []

-- page 3 comes from page 2, and then page 4 from page 3
abbrev pub first_page_first : List Item
first_page_first = Link 0x20 ∷ Destination 3 ∷ Source 2 ∷ Source 3 ∷ Done 0 ∷ []

-- why an item at this place is refused, after words that were so
abbrev pub why_refused : Mem → List SegmentValue → ℕ → Option ℕ → Option ℕ → Earlier → Item
    → Option Why
why_refused M ss control swap place earlier i =
    reason M (want ss) (pages ss) control swap place earlier (Some i)

-- page 2 comes from page 12, and in a second list page page 3 from page 14
abbrev pub over_two_pages : List Item
over_two_pages =
    Link 0x11 ∷ Destination 2 ∷ Source 0x12 ∷ Link 0x13 ∷ Source 0x14 ∷ Done 0 ∷ []

-- page 2 is its own source, and page 3 comes from page 12
abbrev pub one_exchanged : List Item
one_exchanged = Link 0x11 ∷ Destination 2 ∷ Source 2 ∷ Source 0x12 ∷ Done 0 ∷ []

-- a destination without a source
abbrev pub no_move : List Item
no_move = Link 0x11 ∷ Destination 2 ∷ Done 0 ∷ []

-- the list begins in page 20, and no pair came yet; the next destination is as given
abbrev pub no_pair_yet : Option ℕ → Earlier
no_pair_yet next = record { links = 0x20 ∷ []; pairs = []; next = next }

-- the list begins in page 20, and page 2 came from page 30; the next destination is as given
abbrev pub one_pair_yet : ℕ → Earlier
one_pair_yet next = record { links = 0x20 ∷ []; pairs = (2, 0x30) ∷ []; next = Some next }
