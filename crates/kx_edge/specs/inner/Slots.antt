-- How a shelf in memory keeps what was reserved and put: a list of slots, over the files that were given (this
-- project's own).
-- No clause of `kexec` reaches what stands here: it serves laws, and contracts inside the crates.
use Rattle.std.specs.Prelude.{◌≡◌, ℕ, zero, suc, List, [], ◌∷◌, string_bytes, if◌then◌else◌}
use Rattle.std.specs.FinMap.{insert, empty}
use Rattle.kx_edge.specs.Edge.{Files}
use Rattle.kx_edge.specs.inner.Rooms.{Rooms}
use Rattle.kx_edge.specs.declared.slot.Slot.{Slot}

-- the files that were put, over those that were given
abbrev pub files_over : List Slot → Files → Files
files_over [] base = base
files_over (s ∷ ss) base =
    if s.is_written then insert (files_over ss base) (string_bytes s.name) s.bytes.items
    else files_over ss base

-- the room of each name
abbrev pub rooms_of : List Slot → Rooms
rooms_of [] = empty
rooms_of (s ∷ ss) = insert (rooms_of ss) (string_bytes s.name) s.room

-- the first slot of a name is the one at i
abbrev pub IsSlotAt : List Slot → List ℕ → ℕ → Type 0
IsSlotAt [] name i = ⊥
IsSlotAt (s ∷ ss) name zero = string_bytes s.name ≡ name
IsSlotAt (s ∷ ss) name (suc i) = (string_bytes s.name ≡ name → ⊥) × IsSlotAt ss name i
