-- The files of the system that a shelf took and put (this project's own).
-- No clause of `kexec` reaches what stands here: it serves laws, and contracts inside the crates.
use Rattle.std.specs.Prelude.{ℕ, ◌==◌, ◌&&◌, Bool, List}
use Rattle.std.specs.List.{list_any}
use Rattle.kx_edge.specs.declared.known_files.FileId.{FileId}

-- one of these files is this one: the system tells files by both numbers (stat(2), st_dev and st_ino)
abbrev pub is_known : List FileId → FileId → Bool
is_known files id = list_any (λ f. (f.device == id.device) && (f.number == id.number)) files

-- how many files are known at most
abbrev pub most_files : ℕ
most_files = 32
