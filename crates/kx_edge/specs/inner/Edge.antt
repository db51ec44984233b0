-- What shelves and sinks mean, this project's own: files by name, bytes said, and counts of faults.
-- No clause of `kexec` reaches what stands here: it serves laws, and contracts inside the crates.
use Rattle.std.specs.Prelude.{◌≡◌, ℕ, List, Option, IfSome}
use Rattle.kx_edge.specs.Edge.{Files, read_of}

-- these bytes are what a take of at most so many reads, where the files are told
abbrev pub ReadsAs : Option Files → List ℕ → ℕ → List ℕ → Type 0
ReadsAs told name most bytes = IfSome told (λ held. bytes ≡ read_of held name most)
