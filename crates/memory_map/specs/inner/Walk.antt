-- A walk along areas that rise (this project's own).
-- No clause of `kexec` reaches what stands here: it serves laws, and contracts inside the crates.
use Rattle.std.specs.Prelude.{ℕ, ◌-◌, ◌++◌, List, [], ◌∷◌, nat_lt, min, max, if◌then◌else◌}
use Rattle.memory_map.specs.declared.row.Row.{Row}
use Rattle.memory_map.specs.Rows.{row_end}

-- the bytes from s on and before e, if there are any
abbrev pub part : ℕ → ℕ → ℕ → List Row
part s e k = if nat_lt s e then record { start = s; size = e - s; kind = k } ∷ [] else []

-- what is left of the bytes from at on and before e where these areas, which rise, are taken out
abbrev pub walk : ℕ → ℕ → ℕ → List Row → List Row
walk at e k [] = part at e k
walk at e k (a ∷ rest) = part at (min a.start e) k ++ walk (max at (row_end a)) e k rest
