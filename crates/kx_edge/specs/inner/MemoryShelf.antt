-- What a shelf in memory that fails by a list is seen as, and what its calls answer and leave. This project's own.
-- No clause of `kexec` reaches what stands here: it serves laws, and contracts inside the crates.
use Rattle.std.specs.Prelude.{◌≡◌, Bool, false, ℕ, ◌/◌, List, take, length, Contains, Option, None, IsSome, ◌⊎◌, refl}
use Rattle.std.specs.FinMap.{get, insert, code}
use Rattle.std.specs.Coded.{Coded, code_by, coded×, coded_ℕ, coded_bool, coded_list}
use Rattle.kx_edge.specs.Edge.{Files, read_of}
use Rattle.kx_laws.specs.Counts.{next_count}
use Rattle.kx_edge.specs.inner.Rooms.{Rooms, OutsideRoom, told_where, with_room}

-- The files that it holds, whether it tells them, the room of each name, the numbers of the calls that fail,
-- the number of calls made, which is the number of the next call, and the count of faults.
pub record ShelfState : Type 0 where
  pub held : Files
  pub is_told : Bool
  pub rooms : Rooms
  pub failing : List ℕ
  pub calls : ℕ
  pub faults : ℕ

abbrev pub shelf_code : Coded ShelfState
shelf_code =
    code_by (Files × (Bool × (Rooms × (List ℕ × (ℕ × ℕ)))))
    (coded× (code (coded_list coded_ℕ) (coded_list coded_ℕ))
    (coded× coded_bool
    (coded× (code (coded_list coded_ℕ) coded_ℕ)
    (coded× (coded_list coded_ℕ) (coded× coded_ℕ coded_ℕ)))))
    (λ s. (s.held, (s.is_told, (s.rooms, (s.failing, (s.calls, s.faults))))))
    (λ p. record {
      held = p.0;
      is_told = p.1.0;
      rooms = p.1.1.0;
      failing = p.1.1.1.0;
      calls = p.1.1.1.1.0;
      faults = p.1.1.1.1.1;
    })
    (λ _. refl)

-- the files, where they are told
abbrev pub files_of : ShelfState → Option Files
files_of s = told_where s.is_told s.held

-- a call more, which did not fail
abbrev pub after_call : ShelfState → ShelfState
after_call s = record s { calls = next_count s.calls }

-- a call more, which failed
abbrev pub after_failure : ShelfState → ShelfState
after_failure s = record s { calls = next_count s.calls; faults = next_count s.faults }

-- the number of the next call is listed
abbrev pub IsListed : ShelfState → Type 0
IsListed s = Contains s.failing s.calls

-- A take fails where its number is listed, or where it names no file that is held, told or not.
abbrev pub TakeFails : ShelfState → List ℕ → Type 0
TakeFails s name = IsListed s ⊎ (get s.held name ≡ None)

-- It does not fail where its number is not listed, and the file is held.
abbrev pub TakeStands : ShelfState → List ℕ → Type 0
TakeStands s name = (IsListed s → ⊥) × IsSome (get s.held name)

-- a take of at most so many bytes gives these, which are the file's, and leaves a call more
abbrev pub TakeGives : ShelfState → List ℕ → ℕ → List ℕ → ShelfState → Type 0
TakeGives old name most bytes new =
    TakeStands old name × (bytes ≡ read_of old.held name most) × (new ≡ after_call old)

-- after a put within its room that is not listed: the file is these bytes
abbrev pub after_put : ShelfState → List ℕ → List ℕ → ShelfState
after_put s name bytes = record s { held = insert s.held name bytes; calls = next_count s.calls }

-- after a put within its room that is listed: the file is half of the bytes, rounded down
abbrev pub after_half : ShelfState → List ℕ → List ℕ → ShelfState
after_half s name bytes =
    record s {
      held = insert s.held name (take (length bytes / 2) bytes);
      calls = next_count s.calls;
      faults = next_count s.faults;
    }

-- after a put outside its room: all files stay, and are not told from then on
abbrev pub after_outside : ShelfState → ShelfState
after_outside s =
    record s { is_told = false; calls = next_count s.calls; faults = next_count s.faults }

-- a put succeeds where its number is not listed and it is within its room, and leaves this
abbrev pub PutSucceeds : ShelfState → List ℕ → List ℕ → ShelfState → Type 0
PutSucceeds old name bytes new =
    (IsListed old → ⊥) × (OutsideRoom old.rooms name bytes → ⊥) × (new ≡ after_put old name bytes)

-- a put fails where it is outside its room, or where its number is listed and it is within its room, and leaves this
abbrev pub PutFails : ShelfState → List ℕ → List ℕ → ShelfState → Type 0
PutFails old name bytes new =
    (OutsideRoom old.rooms name bytes × (new ≡ after_outside old))
    ⊎ (IsListed old × (OutsideRoom old.rooms name bytes → ⊥) × (new ≡ after_half old name bytes))

-- after a reserve of n bytes for a name
abbrev pub after_reserve : ShelfState → List ℕ → ℕ → ShelfState
after_reserve s name n = record s { rooms = with_room s.rooms name n }
