-- Takes of the two files `a` and `b`, whose own reasons are numbers (this project's own).
use Rattle.std.specs.Prelude.{◌≡◌, ℕ, ◌-◌, List, length, Ok, Err, Some, None, codes}
use Rattle.file_commands.specs.Files.{whole_file}
use Rattle.file_commands.specs.Taking.{Refusal, Take, ok, reads, ◌>>=◌}
use Rattle.worked_commands.specs.Shelves.{Desk, two_files}

-- what is made of the two files
abbrev pub read_as : {X : Type 0} → Take ℕ X → X → Type 0
read_as t x = reads t two_files ≡ Ok x

-- why they are refused
abbrev pub refused_as : {X : Type 0} → Take ℕ X → Refusal ℕ → Type 0
refused_as t why = reads t two_files ≡ Err why

-- `a` and then `b`, each with its limit
abbrev pub a_then_b : ℕ → ℕ → Take ℕ (List ℕ × List ℕ)
a_then_b m n = do
  x ← whole_file m (codes "a")
  y ← whole_file n (codes "b")
  ok (x, y)

-- `a`, and then `b` within what `a` left of four bytes
abbrev pub a_then_rest : Take ℕ (List ℕ)
a_then_rest = do
  x ← whole_file 4 (codes "a")
  whole_file (4 - length x) (codes "b")

-- no file
abbrev pub no_take : Take ℕ ℕ
no_take = ok 5

-- a shelf that tells the two files
abbrev pub calm : Desk
calm = record { files = Some two_files; faults = 6 }

-- the same after a fault
abbrev pub failed_once : Desk
failed_once = record { files = Some two_files; faults = 7 }

-- a shelf that tells no files
abbrev pub untold : Desk
untold = record { files = None; faults = 6 }
