-- What a command takes of a shelf, file after file, and what is made of their bytes: one value, from which it follows what
-- is read of files that are told, which takes were made, and which of them failed. This project's own.
-- No clause of `kexec` reaches what stands here: it serves laws, and contracts inside the crates.
use Rattle.std.specs.Prelude.{ℕ, List, [], unwrap_or}
use Rattle.std.specs.FinMap.{get}
use Rattle.kx_edge.specs.Edge.{Files}

-- a file's bytes; one that is not held reads as the empty file
abbrev pub file_at : Files → List ℕ → List ℕ
file_at held name = unwrap_or (get held name) []
