-- A machine with 1 MiB of RAM, a pool of 8 pages and no reserved area, and the events of two callers (this project's own).
use Rattle.std.specs.Prelude.{ℕ, List, [], ◌∷◌, ◌++◌, codes, replicate, None}
use Rattle.kx_pages.specs.declared.image.Wish.{Wish}
use Rattle.kx_pages.specs.declared.image.Wish.TheVariants as wishes
use Rattle.segments.specs.Values.{SegmentValue}
use Rattle.image_slots.specs.declared.event.LoadKind.TheVariants as kinds
use Rattle.image_slots.specs.Events.{EventValue, Open, Add, Write, Install, Store, Exec}
use Rattle.image_slots.specs.Sequences.{fresh}
use Rattle.image_slots.specs.States.{State}

-- every page is zeros
abbrev pub machine : List ℕ → State
machine pool = fresh (λ p. replicate 4096 0) pool (record { first = 0; count = 0x100 } ∷ []) None

-- these bytes in the page at this address
abbrev pub page_at : (address : ℕ) → List ℕ → SegmentValue
page_at address bytes = record { bytes = bytes; mem = address; memsz = 0x1000 }

-- caller 1 loads, caller 2 comes too early, a store meets the list, and another one the destination
abbrev pub first_events : List EventValue
first_events =
    Open 1 (kinds.Normal wishes.Plain) ∷ Open 2 kinds.Crash ∷ Add 1 (page_at 0x2000 (codes "a"))
    ∷ Write 1 ∷ Store 0x12 (0xff ∷ [])
    ∷ Store 2 (0xff ∷ []) ∷ Install 1 ∷ Open 2 kinds.Crash ∷ Exec 1 ∷ Exec 1 ∷ []

abbrev pub first_text : List ℕ
first_text =
    codes "open 1 normal\nopen 2 crash\nadd 1 2000 1000 61\nwrite 1\nstore 12 ff\n"
    ++ codes "store 2 ff\ninstall 1\nopen 2 crash\nexec 1\nexec 1\n"

-- caller 1 opens a load, adds a page at this address, writes and installs it
abbrev pub loading : Wish → (address : ℕ) → List ℕ → List EventValue
loading wish address bytes =
    Open 1 (kinds.Normal wish) ∷ Add 1 (page_at address bytes) ∷ Write 1 ∷ Install 1 ∷ []
