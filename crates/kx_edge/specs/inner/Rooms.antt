-- The rooms that were reserved in a shelf in memory, and the files that it was given. This project's own.
-- No clause of `kexec` reaches what stands here: it serves laws, and contracts inside the crates.
use Rattle.std.specs.Prelude.{Bool, ℕ, ◌<◌, max, List, length, map, Option, Some, None, String, Vec, string_bytes, unwrap_or, if◌then◌else◌}
use Rattle.std.specs.Ordering.{nat_cmp}
use Rattle.std.specs.Cmp.Lexicographic.{slice_cmp}
use Rattle.std.specs.FinMap.{FinMap, get, insert, from_entries}
use Rattle.kx_edge.specs.Edge.{Files}

-- the room of each name that was reserved: how many bytes a file of this name may have
abbrev pub Rooms : Type 0
Rooms = FinMap (slice_cmp nat_cmp) ℕ

-- the name's room is the greatest that was reserved for it
abbrev pub with_room : Rooms → List ℕ → ℕ → Rooms
with_room rooms name n = insert rooms name (max n (unwrap_or (get rooms name) 0))

-- so many bytes are more than this room, or there is none
abbrev pub ExceedsRoom : Option ℕ → List ℕ → Type 0
ExceedsRoom None bytes = Unit {0}
ExceedsRoom (Some room) bytes = room < length bytes

-- a put is outside its room: its name was not reserved, or it has more bytes than the room
abbrev pub OutsideRoom : Rooms → List ℕ → List ℕ → Type 0
OutsideRoom rooms name bytes = ExceedsRoom (get rooms name) bytes

-- the files that a shelf was given, as pairs of name and bytes; of a name that stands twice the first
abbrev pub given_files : {A B : Type 0} → List (String A × Vec ℕ B) → Files
given_files files = from_entries (map (λ f. (string_bytes f.0, f.1.items)) files)

-- the files that a shelf holds, where it tells them
abbrev pub told_where : Bool → Files → Option Files
told_where is_told held = if is_told then Some held else None
