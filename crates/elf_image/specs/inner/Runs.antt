-- Runs of entries that pass a test (this project's own).
-- No clause of `kexec` reaches what stands here: it serves laws, and contracts inside the crates.
use Rattle.std.specs.Prelude.{◌≡◌, ℕ, ◌+◌, ◌-◌, ◌*◌, ◌<◌, Bool, true, List, length, get_or}

-- how many entries in a row pass, from each of the last bytes of a file of so many on, the last byte's first
pub record Runs : Type 0 where
  pub end : ℕ
  pub lengths : List ℕ

-- so many entries of 24 bytes from there on pass the test
pub record AreRuns (test : ℕ → Bool) (r : Runs) : Type 0 where
  pub each : (i k : ℕ) → i < length r.lengths → k < get_or r.lengths i 0
      → test (r.end - 1 - i + 24 * k) ≡ true
