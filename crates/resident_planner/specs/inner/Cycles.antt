-- Pages whose bytes lie in memory already, and the cycles among them: this project's own. r tells
-- of a wanted page which page holds its bytes already, its resident page, where there is one; D
-- lists the wanted pages, each once.
-- No clause of `kexec` reaches what stands here: it serves laws, and contracts inside the crates.
use Rattle.std.specs.Prelude.{◌≡◌, ℕ, zero, suc, Option, Some}

-- m steps of s lead from p to q
abbrev pub Goes : (ℕ → Option ℕ) → ℕ → ℕ → ℕ → Type 0
Goes s zero p q = p ≡ q
Goes s (suc m) p q = (x : ℕ) × (s p ≡ Some x) × Goes s m x q
