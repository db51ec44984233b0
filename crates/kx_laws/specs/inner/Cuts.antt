-- Bytes cut in two parts (this project's own).
-- No clause of `kexec` reaches what stands here: it serves laws, and contracts inside the crates.
use Rattle.std.specs.Prelude.{◌≡◌, ◌⊎◌, ℕ, ◌<◌, List, [], length}

-- the first part has `at` bytes, or it has fewer and is all of them
abbrev pub IsCutAt : ℕ → List ℕ → List ℕ → Type 0
IsCutAt at front rest = (length front ≡ at) ⊎ ((length front < at) × (rest ≡ []))
