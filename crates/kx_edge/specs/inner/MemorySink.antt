-- What a sink in memory that fails by a list is seen as, and what its calls leave. This project's own.
-- No clause of `kexec` reaches what stands here: it serves laws, and contracts inside the crates.
use Rattle.std.specs.Prelude.{ℕ, ◌-◌, ◌<◌, List, ◌++◌, length, Contains, ◌⊎◌}
use Rattle.kx_laws.specs.Counts.{next_count}

-- The bytes said, the room left in bytes, the numbers of the calls that fail, the number of calls made, which
-- is the number of the next call, and the count of faults.
pub record SinkState : Type 0 where
  pub said : List ℕ
  pub room : ℕ
  pub failing : List ℕ
  pub calls : ℕ
  pub faults : ℕ

-- a say fails where its number is listed, or where it has more bytes than the room left
abbrev pub SayFails : SinkState → List ℕ → Type 0
SayFails s bytes = Contains s.failing s.calls ⊎ (s.room < length bytes)

-- after a say that succeeds: the bytes are appended and taken off the room
abbrev pub after_said : SinkState → List ℕ → SinkState
after_said s bytes =
    record s { said = s.said ++ bytes; room = s.room - length bytes; calls = next_count s.calls }

-- after a say that fails: nothing is appended
abbrev pub after_unsaid : SinkState → SinkState
after_unsaid s = record s { calls = next_count s.calls; faults = next_count s.faults }
