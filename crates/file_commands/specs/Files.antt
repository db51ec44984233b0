-- The files of commands: a whole one, one that may be named, and several within a budget. This project's own.
use Rattle.std.specs.Prelude.{ℕ, ◌+◌, ◌-◌, List, [], ◌∷◌, ◌++◌, length, Option, Some, None, Result, Ok, Err, nat_lt, if◌then◌else◌}
use Rattle.file_commands.specs.Taking.{File, Take, ok, refuse, file, too_long, by, ◌>>=◌}

-- bytes that are at most so many
abbrev pub check_length : {R : Type 0} → ℕ → List ℕ → List ℕ → Take R (List ℕ)
check_length limit name bytes =
    if nat_lt limit (length bytes) then refuse (too_long name limit)
    else ok bytes

-- A file's bytes, which are at most so many: one byte more is asked for, so that a longer file shows.
abbrev pub whole_file : {R : Type 0} → ℕ → List ℕ → Take R (List ℕ)
whole_file limit name = file name (limit + 1) (λ bytes. check_length limit name bytes)

-- what a reader makes of bytes, or the reason of its refusal
abbrev pub from_reader : {R F X : Type 0} → (F → R) → Result X F → Take R X
from_reader reason (Ok x) = ok x
from_reader reason (Err fault) = refuse (by (reason fault))

-- a file that may be named
abbrev pub optional_file : {R X : Type 0} → (List ℕ → Take R X) → Option (List ℕ)
    → Take R (Option X)
optional_file take None = ok None
optional_file take (Some name) = do
  x ← take name
  ok (Some x)

-- More files, which have so many bytes together, after those that are taken already: each has what is left of the
-- budget as its limit.
abbrev pub more_files : {R : Type 0} → ℕ → List (List ℕ) → List File → Take R (List File)
more_files left [] taken = ok taken
more_files left (name ∷ names) taken = do
  bytes ← whole_file left name
  more_files (left - length bytes) names (taken ++ (name, bytes) ∷ [])

-- files that have at most so many bytes together, with their names
abbrev pub all_files : {R : Type 0} → ℕ → List (List ℕ) → Take R (List File)
all_files budget names = more_files budget names []
