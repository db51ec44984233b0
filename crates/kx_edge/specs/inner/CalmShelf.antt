-- What a shelf in memory that fails only outside its room is seen as, and what its calls leave. This project's own.
-- No clause of `kexec` reaches what stands here: it serves laws, and contracts inside the crates.
use Rattle.std.specs.Prelude.{Bool, false, ℕ, List, Option, refl}
use Rattle.std.specs.Coded.{Coded, code_by, coded×, coded_ℕ, coded_bool, coded_list}
use Rattle.std.specs.FinMap.{code, insert}
use Rattle.kx_laws.specs.Counts.{next_count}
use Rattle.kx_edge.specs.Edge.{Files}
use Rattle.kx_edge.specs.inner.Rooms.{Rooms, told_where, with_room}

-- the files that it holds, whether it tells them, the room of each name, and the count of faults
pub record CalmState : Type 0 where
  pub held : Files
  pub is_told : Bool
  pub rooms : Rooms
  pub faults : ℕ

abbrev pub calm_code : Coded CalmState
calm_code =
    code_by (Files × (Bool × (Rooms × ℕ)))
    (coded× (code (coded_list coded_ℕ) (coded_list coded_ℕ))
    (coded× coded_bool (coded× (code (coded_list coded_ℕ) coded_ℕ) coded_ℕ)))
    (λ s. (s.held, (s.is_told, (s.rooms, s.faults))))
    (λ p. record { held = p.0; is_told = p.1.0; rooms = p.1.1.0; faults = p.1.1.1 }) (λ _. refl)

-- the files, where they are told
abbrev pub calm_files : CalmState → Option Files
calm_files s = told_where s.is_told s.held

-- after a reserve of n bytes for a name
abbrev pub calm_after_reserve : CalmState → List ℕ → ℕ → CalmState
calm_after_reserve s name n = record s { rooms = with_room s.rooms name n }

-- after a put within its room: the file is these bytes
abbrev pub calm_after_put : CalmState → List ℕ → List ℕ → CalmState
calm_after_put s name bytes = record s { held = insert s.held name bytes }

-- after a put outside its room, which failed: all files stay, and are not told from then on
abbrev pub calm_outside : CalmState → CalmState
calm_outside s = record s { is_told = false; faults = next_count s.faults }
