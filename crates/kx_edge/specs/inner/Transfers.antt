-- What a write of all bytes does to a writer whose bytes are known.
-- No clause of `kexec` reaches what stands here: it serves laws, and contracts inside the crates.
use Rattle.std.specs.Prelude.{ℕ, ◌≤◌, List, take, length, Option}
use Rattle.std.specs.Io.KnownBytes.{Appends}

-- known bytes grow by some prefix of these
abbrev pub AppendsPrefix : Option (List ℕ) → Option (List ℕ) → List ℕ → Type 0
AppendsPrefix old new bytes = (n : ℕ) × (n ≤ length bytes) × Appends old new (take n bytes)
